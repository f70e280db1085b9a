-- One number more of which a check asks something.
use Rattle.std.proofs.Common.{◌≡◌, inl, inr, ℕ, ◌+◌, ◌<◌, Bool, List, [], ◌∷◌, ◌++◌, take, length, get_or, refl, sym, ◌∙◌, ap}
use Rattle.std.proofs.lemmas.Bool.{cases_Bool}
use Rattle.std.proofs.lemmas.List.{take_more}
use Rattle.o2_model.specs.Faults.{fails_at, fails_unless}

fails_append : (holds : ℕ → Bool) (ns : List ℕ) (n : ℕ) → fails_at (λ b. b) holds (ns ++ n ∷ []) ≡ fails_at (λ b. b) holds ns ++ fails_unless n (holds n)
fails_append holds [] n = elim (cases_Bool (holds n)) [
  | inl is ↦ rw is refl
  | inr fails ↦ rw fails refl
]
fails_append holds (m ∷ ns) n = elim (cases_Bool (holds m)) [
  | inl is ↦ rw is (fails_append holds ns n)
  | inr fails ↦ rw fails (ap (λ ms. m ∷ ms) (fails_append holds ns n))
]

-- what was found of the first numbers, and of the next one
pub one_more_fails : (holds : ℕ → Bool) (ns : List ℕ) (i : ℕ) (before after : List ℕ) → i < length ns → before ≡ fails_at (λ b. b) holds (take i ns)
    → after ≡ before ++ fails_unless (get_or ns i 0) (holds (get_or ns i 0)) → after ≡ fails_at (λ b. b) holds (take (i + 1) ns)
one_more_fails holds ns i before after low so_far more =
    more
    ∙ (ap (λ bs. bs ++ fails_unless (get_or ns i 0) (holds (get_or ns i 0))) so_far
    ∙ sym (ap (fails_at (λ b. b) holds) (take_more ns i 0 low) ∙ fails_append holds (take i ns) (get_or ns i 0)))
