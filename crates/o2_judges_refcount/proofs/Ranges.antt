-- Tests of the numbers of a range and of the items of a list, from the one at hand on.
use Rattle.std.proofs.Common.{◌≡◌, ℕ, suc, ◌+◌, ◌-◌, ◌<◌, Bool, true, false, ◌&&◌, List, ◌∷◌, length, drop, get_or, ◌∙◌, ap, arith}
use Rattle.std.specs.List.{range_with_len, list_all}
use Rattle.std.proofs.lemmas.List.{drop_more}

-- the first that is left
first_left : (s k n : ℕ) → k < n → range_with_len (s + k) (n - k) ≡ (s + k) ∷ range_with_len (s + (k + 1)) (n - (k + 1))
first_left s k n low =
    let some : n - k ≡ suc (n - (k + 1)) = omega (arith, low) in
    let next : s + k + 1 ≡ s + (k + 1) = omega arith in
    rw some (ap (λ a. (s + k) ∷ range_with_len a (n - (k + 1))) next)

-- it passes, and one less is left
pub test_here : (p : ℕ → Bool) (s k n : ℕ) → k < n → p (s + k) ≡ true → list_all p (range_with_len (s + k) (n - k)) ≡ list_all p (range_with_len (s + (k + 1)) (n - (k + 1)))
test_here p s k n low is = ap (list_all p) (first_left s k n low) ∙ ap (λ b. b && list_all p (range_with_len (s + (k + 1)) (n - (k + 1)))) is

-- it does not pass
pub test_fails : (p : ℕ → Bool) (s k n : ℕ) → k < n → p (s + k) ≡ false → list_all p (range_with_len (s + k) (n - k)) ≡ false
test_fails p s k n low is = ap (list_all p) (first_left s k n low) ∙ ap (λ b. b && list_all p (range_with_len (s + (k + 1)) (n - (k + 1)))) is

-- ---- the items that are left
pub item_passes : {A : Type 0} (p : A → Bool) (xs : List A) (i : ℕ) (d : A) → i < length xs → p (get_or xs i d) ≡ true → list_all p (drop i xs) ≡ list_all p (drop (i + 1) xs)
item_passes p xs i d low is = ap (list_all p) (drop_more xs i d low) ∙ ap (λ b. b && list_all p (drop (i + 1) xs)) is

pub item_fails : {A : Type 0} (p : A → Bool) (xs : List A) (i : ℕ) (d : A) → i < length xs → p (get_or xs i d) ≡ false → list_all p (drop i xs) ≡ false
item_fails p xs i d low is = ap (list_all p) (drop_more xs i d low) ∙ ap (λ b. b && list_all p (drop (i + 1) xs)) is
