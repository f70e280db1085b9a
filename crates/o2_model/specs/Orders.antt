-- Numbers in order, and items that come again.
use Rattle.std.specs.Prelude.{ℕ, Bool, true, false, not, ◌==◌, nat_lt, List, [], ◌∷◌, ◌++◌, filter, Option, Some, None, if◌then◌else◌}
use Rattle.std.specs.List.{range_with_len}

-- the numbers from `low` on and below `high`
abbrev pub from_to : ℕ → ℕ → List ℕ
from_to low high = filter (λ n. not (nat_lt n low)) (range_with_len 0 high)

-- the rising numbers with this one in its place, once
abbrev pub with_number : ℕ → List ℕ → List ℕ
with_number n [] = n ∷ []
with_number n (m ∷ ms) = if nat_lt n m then n ∷ m ∷ ms else if n == m then m ∷ ms else m ∷ with_number n ms

-- the same numbers rising, each once
abbrev pub rising : List ℕ → List ℕ
rising [] = []
rising (n ∷ ns) = with_number n (rising ns)

-- the items that are like an earlier one, some of them more than once
abbrev pub later_like : {A : Type 0} → (A → A → Bool) → List A → List A
later_like alike [] = []
later_like alike (x ∷ xs) = filter (alike x) xs ++ later_like alike xs

-- there is nothing in the list
abbrev pub is_none_of : {A : Type 0} → List A → Bool
is_none_of [] = true
is_none_of (x ∷ xs) = false

-- the first of the list
abbrev pub first_of : {A : Type 0} → List A → Option A
first_of [] = None
first_of (x ∷ xs) = Some x
