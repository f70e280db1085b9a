-- A test of what each slot has.
use Rattle.std.proofs.Common.{◌≡◌, inl, inr, ℕ, zero, suc, ◌+◌, ◌<◌, Bool, true, false, ◌&&◌, List, refl, ◌∙◌, ap, arith}
use Rattle.std.specs.Prelude.{flat_map}
use Rattle.std.specs.List.{list_all, range_with_len}
use Rattle.std.proofs.lemmas.Bool.{cases_lt}
use Rattle.std.proofs.lemmas.List.Folds.{list_all-append}
use Rattle.o2_survey.proofs.SlotLists.{one_slot_more}

module _ {A : Type 0} (p : A → Bool) (f : ℕ → List A) where
  all_more : (n : ℕ) → list_all p (flat_map f (range_with_len 0 (n + 1))) ≡ (list_all p (flat_map f (range_with_len 0 n)) && list_all p (f n))
  all_more n = ap (list_all p) (one_slot_more f n) ∙ list_all-append p (flat_map f (range_with_len 0 n)) (f n)

  pub holds_more : (n : ℕ) → list_all p (flat_map f (range_with_len 0 n)) ≡ true → list_all p (f n) ≡ true → list_all p (flat_map f (range_with_len 0 (n + 1))) ≡ true
  holds_more n before here = all_more n ∙ rw (before, here) refl

  and_fails : (x y : Bool) → y ≡ false → (x && y) ≡ false
  and_fails true y none = none
  and_fails false y none = refl

  and_fails_first : (x y : Bool) → x ≡ false → (x && y) ≡ false
  and_fails_first x y none = rw none refl

  pub fails_in : (k : ℕ) → list_all p (f k) ≡ false → (n : ℕ) → k < n → list_all p (flat_map f (range_with_len 0 n)) ≡ false
  fails_in k none zero low = absurd (omega (arith, low))
  fails_in k none (suc n) low =
      let next : suc n ≡ n + 1 = omega arith in
      ap (λ m. list_all p (flat_map f (range_with_len 0 m))) next
      ∙ (all_more n
      ∙ elim (cases_lt k n) [
        | inl before ↦ and_fails_first _ _ (fails_in k none n before)
        | inr after ↦ let same : n ≡ k = omega (arith, low, after) in and_fails _ _ (ap (λ m. list_all p (f m)) same ∙ none)
      ])
