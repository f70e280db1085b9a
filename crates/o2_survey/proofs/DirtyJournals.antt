-- Journals that are dirty, and in range.
use Rattle.std.proofs.Common.{◌≡◌, inl, inr, ℕ, ◌%◌, ◌^◌, ◌<◌, Bool, true, false, ◌&&◌, not, List, [], ◌∷◌, ◌++◌, cond, filter, length, get_or, refl, sym, ◌∙◌, ap, arith}
use Rattle.std.specs.List.{list_all}
use Rattle.std.proofs.lemmas.Bool.{cases_Bool, false≢true}
use Rattle.std.proofs.lemmas.List.Folds.{list_all_at}
use Rattle.std.proofs.lemmas.Nat.{and_mask}
use Rattle.std.specs.Prelude.{nat_eq}
use Rattle.o2_ondisk.specs.Bits.{has_bits, dirty_journal_flag}
use Rattle.o2_model.specs.Faults.{fails_at}

-- the flag is the lowest bit, which the lower half of the number has
pub same_flag : (n : ℕ) → has_bits (n % 2 ^ 32) dirty_journal_flag ≡ has_bits n dirty_journal_flag
same_flag n =
    let lowest : n % 2 ^ 32 % 2 ≡ n % 2 = omega arith in
    ap (λ bit. not (nat_eq bit 0)) (and_mask (n % 2 ^ 32) 1 ∙ (lowest ∙ sym (and_mask n 1)))

-- where the test holds for all, it does for each
pub each_of_all : {A : Type 0} (p : A → Bool) (xs : List A) (i : ℕ) (d : A) → i < length xs → list_all p xs ≡ true → p (get_or xs i d) ≡ true
each_of_all p xs i d low all = elim (cases_Bool (p (get_or xs i d))) [
  | inl holds ↦ holds
  | inr fails ↦ absurd (false≢true (sym (list_all_at p xs i d low fails) ∙ all))
]

-- one number more, where both tests hold
pub one_dirty : (here dirty : Bool) (b : ℕ) (found : List ℕ) → here ≡ true → dirty ≡ true → found ++ b ∷ [] ≡ found ++ cond (here && dirty) (b ∷ []) []
one_dirty true true b found inside is = refl
one_dirty true false b found inside is = absurd (false≢true is)
one_dirty false dirty b found inside is = absurd (false≢true inside)

-- where both tests hold, in order
pub both_tests : (p q : ℕ → Bool) (bs : List ℕ) → filter (λ b. p b && q b) bs ≡ filter p (fails_at (λ b. b) (λ b. not (q b)) bs)
both_tests p q [] = refl
both_tests p q (b ∷ bs) = elim (cases_Bool (q b)) [
  | inl dirty ↦ elim (cases_Bool (p b)) [
    | inl here ↦ rw (dirty, here) (ap (λ cs. b ∷ cs) (both_tests p q bs))
    | inr other ↦ rw (dirty, other) (both_tests p q bs)
  ]
  | inr clean ↦ elim (cases_Bool (p b)) [
    | inl here ↦ rw (clean, here) (both_tests p q bs)
    | inr other ↦ rw (clean, other) (both_tests p q bs)
  ]
]

-- where all are in range, none is left out
pub none_left_out : (p q : ℕ → Bool) (bs : List ℕ) → list_all p bs ≡ true → filter p (fails_at (λ b. b) q bs) ≡ fails_at (λ b. b) q bs
none_left_out p q [] all = refl
none_left_out p q (b ∷ bs) all = elim (cases_Bool (p b)) [
  | inr other ↦ absurd (false≢true (rw other at all))
  | inl here ↦
      let rest = none_left_out p q bs (rw here at all) in
      elim (cases_Bool (q b)) [
        | inl holds ↦ rw holds rest
        | inr fails ↦ rw (fails, here) (ap (λ cs. b ∷ cs) rest)
      ]
]
