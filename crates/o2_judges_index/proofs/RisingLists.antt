-- Numbers that rise: those below one of them are those before it.
use Rattle.std.proofs.Common.{◌≡◌, inl, inr, ℕ, zero, suc, ◌+◌, ◌<◌, ◌≤◌, Bool, true, false, nat_lt, List, [], ◌∷◌, ◌++◌, filter, refl, ap, arith}
use Rattle.std.specs.List.{range_with_len}
use Rattle.std.proofs.lemmas.Bool.{cases_Bool}
use Rattle.std.proofs.lemmas.Bool.Decides.{nat_tests}

-- these numbers rise, and the first is `low` or more
abbrev pub AreAbove : ℕ → List ℕ → Type 0
AreAbove low [] = Unit {0}
AreAbove low (x ∷ xs) = (low ≤ x) × AreAbove (x + 1) xs

above_weaker : (a b : ℕ) (xs : List ℕ) → a ≤ b → AreAbove b xs → AreAbove a xs
above_weaker a b [] order h = tt
above_weaker a b (x ∷ xs) order h = let first = h.0 in (omega (arith, order, first), h.1)

pub above_filter : (p : ℕ → Bool) (low : ℕ) (xs : List ℕ) → AreAbove low xs → AreAbove low (filter p xs)
above_filter p low [] h = tt
above_filter p low (x ∷ xs) h = elim (cases_Bool (p x)) [
  | inl passes ↦ rw passes (h.0, above_filter p (x + 1) xs h.1)
  | inr fails ↦ let first = h.0 in rw fails (above_weaker low (x + 1) (filter p xs) (omega (arith, first)) (above_filter p (x + 1) xs h.1))
]

pub above_range : (a n : ℕ) → AreAbove a (range_with_len a n)
above_range a zero = tt
above_range a (suc n) = (omega arith, above_range (a + 1) n)

-- ---- those below a number
not_below : (x d : ℕ) → d ≤ x → nat_lt x d ≡ false
not_below x d h = grind (arith, nat_tests)

is_below : (x d : ℕ) → x < d → nat_lt x d ≡ true
is_below x d h = grind (arith, nat_tests)

none_below : (d low : ℕ) (xs : List ℕ) → d ≤ low → AreAbove low xs → filter (λ e. nat_lt e d) xs ≡ []
none_below d low [] order h = refl
none_below d low (x ∷ xs) order h =
    let first = h.0 in
    rw (not_below x d (omega (arith, order, first))) (none_below d (x + 1) xs (omega (arith, order, first)) h.1)

low_below : (low d : ℕ) (front rest : List ℕ) → AreAbove low (front ++ d ∷ rest) → low ≤ d
low_below low d [] rest h = h.0
low_below low d (x ∷ front) rest h = let first = h.0 in let later = low_below (x + 1) d front rest h.1 in omega (arith, first, later)

pub those_before : (low d : ℕ) (front rest : List ℕ) → AreAbove low (front ++ d ∷ rest) → filter (λ e. nat_lt e d) (front ++ d ∷ rest) ≡ front
those_before low d [] rest h = rw (not_below d d (omega arith)) (none_below d (d + 1) rest (omega arith) h.1)
those_before low d (x ∷ front) rest h =
    let later = low_below (x + 1) d front rest h.1 in
    rw (is_below x d (omega (arith, later))) (ap (λ ns. x ∷ ns) (those_before (x + 1) d front rest h.1))
