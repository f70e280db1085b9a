-- A number that a search among rising numbers misses.
use Rattle.std.proofs.Common.{◌≡◌, ◌⊎◌, inl, inr, ℕ, ◌<◌, ◌≤◌, false, ◌==◌, List, length, get_or, Err, sym, ◌∙◌, ap, subst, arith}
use Rattle.std.specs.List.{list_any}
use Rattle.std.specs.List.Sorted.{IsStrictlySortedBy, IsBinarySearchResult}
use Rattle.std.specs.Ordering.{nat_cmp}
use Rattle.std.proofs.lemmas.Bool.{cases_lt}
use Rattle.std.proofs.lemmas.Bool.Decides.{nat_tests}
use Rattle.std.proofs.lemmas.List.Elements.{All-from_get_or}
use Rattle.std.proofs.lemmas.List.Folds.{list_any_none}
use Rattle.std.proofs.lemmas.List.Sorted.{searched}
use Rattle.std.proofs.lemmas.Map.Keys.{below_from_sorted}
use Rattle.o2_model.specs.Words.{among}
use Rattle.o2_model.specs.Orders.{rising}
use Rattle.o2_tally.proofs.Sames.{rising_rises, any_rising}

no_less : (xs : List ℕ) → IsStrictlySortedBy nat_cmp xs → (i j : ℕ) → i ≤ j → j < length xs → get_or xs i 0 ≤ get_or xs j 0
no_less xs sorted i j low within = elim (cases_lt i j) [
  | inl before ↦ let less = below_from_sorted xs i j 0 sorted before within in omega (arith, less)
  | inr not_before ↦ let same : i ≡ j = omega arith in subst (λ k. get_or xs i 0 ≤ get_or xs k 0) same (omega arith)
]

above : (n m : ℕ) → n < m → (n == m) ≡ false
above n m h = grind (arith, nat_tests)

below : (n m : ℕ) → m < n → (n == m) ≡ false
below n m h = grind (arith, nat_tests)

-- What a search among numbers in order does not find is not one of the numbers.
pub nowhere : (xs ns : List ℕ) (n at : ℕ) → xs ≡ rising ns → IsBinarySearchResult (λ y. nat_cmp y n) xs (Err at) → among ns n ≡ false
nowhere xs ns n at is missed =
    let sorted = subst (λ ms. IsStrictlySortedBy nat_cmp ms) (sym is) (rising_rises ns) in
    let parts = searched xs n (Err at) missed (no_less xs sorted) in
    let differs = λ (k : ℕ) (within : k < length xs). at_place k within (cases_lt k at) parts in
    sym (any_rising (λ m. n == m) ns) ∙ (ap (list_any (λ m. n == m)) (sym is) ∙ list_any_none (λ m. n == m) xs (All-from_get_or (λ m. (n == m) ≡ false) xs 0 differs))
  where
    at_place : (k : ℕ) → k < length xs → (k < at) ⊎ (at ≤ k)
        → (at ≤ length xs) × ((k : ℕ) → k < at → get_or xs k 0 < n) × ((k : ℕ) → at ≤ k → k < length xs → n < get_or xs k 0) → (n == get_or xs k 0) ≡ false
    at_place k within (inl before) parts = below n (get_or xs k 0) (parts.1 k before)
    at_place k within (inr behind) parts = above n (get_or xs k 0) (parts.2 k behind within)
