-- One group more is kept, or left out.
use Rattle.std.proofs.Common.{◌≡◌, inl, inr, ℕ, Bool, true, false, ◌&&◌, ◌==◌, List, [], ◌∷◌, refl, sym, ◌∙◌, ap, Option, Some, None}
use Rattle.std.specs.List.{list_any}
use Rattle.std.specs.Prelude.{◌≢◌}
use Rattle.std.proofs.lemmas.Bool.{cases_Bool, cases_eq, eq-eqb, eqb-true, or_left, or_right}
use Rattle.std.proofs.lemmas.List.Folds.{list_any-append}
use Rattle.o2_model.specs.declared.allocator.BitUse.{BitUse}
use Rattle.o2_model.specs.declared.allocator.Group.{Group}
use Rattle.o2_model.specs.Words.{push}
use Rattle.o2_judges_origin.specs.Placed.{is_kept_as, is_at_block, ArePlaced}
use Rattle.o2_judges_origin.specs.declared.placed.GroupBits.{GroupBits}

-- ---- a test over one item more
any_before : (test : Group → Bool) (gs : List Group) (g : Group) → list_any test gs ≡ true → list_any test (push gs g) ≡ true
any_before test gs g h = list_any-append test gs (g ∷ []) ∙ or_left (list_any test gs) _ h

any_last : (test : Group → Bool) (gs : List Group) (g : Group) → test g ≡ true → list_any test (push gs g) ≡ true
any_last test gs g h = list_any-append test gs (g ∷ []) ∙ or_right (list_any test gs) _ (or_left (test g) false h)

none_of : (test : Group → Bool) (gs : List Group) (g : Group) → list_any test gs ≡ false → test g ≡ false → list_any test (push gs g) ≡ false
none_of test gs g before last = list_any-append test gs (g ∷ []) ∙ (rw (before, last) refl)

-- ---- what is kept
some_is : {A : Type 0} {a b : A} → Some a ≡ Some b → a ≡ b
some_is e = cc

some_not_none : {A : Type 0} {a : A} → Some a ≡ None → ⊥
some_not_none e = cc

and_false : (x y : Bool) → x ≡ false → (x && y) ≡ false
and_false x y h = rw h refl

at_other : (is_use : BitUse → Bool) (s : ℕ) (g : Group) → g.block ≢ s → is_at_block is_use s g ≡ false
at_other is_use s g apart = both (is_use g.of.bit_use) (g.block == s) (differs g.block s apart)
  where
    both : (x y : Bool) → y ≡ false → (x && y) ≡ false
    both true y h = h
    both false y h = refl

    differs : (m n : ℕ) → m ≢ n → (m == n) ≡ false
    differs m n ne = elim (cases_Bool (m == n)) [
      | inl is ↦ absurd (ne (eqb-true m n is))
      | inr not ↦ not
    ]

module _ (is_use : BitUse → Bool) (gs : List Group) (place : ℕ → Option GroupBits) (are : ArePlaced is_use gs place) (g : Group) where
  -- a group of another use
  pub skip_placed : is_use g.of.bit_use ≡ false → ArePlaced is_use (push gs g) place
  skip_placed other = record {
    told = λ s kept at. any_before (is_kept_as is_use s kept) gs g (are.told s kept at);
    none = λ s at. none_of (is_at_block is_use s) gs g (are.none s at) (and_false (is_use g.of.bit_use) (g.block == s) other);
  }

  -- a group of this one, at its block
  pub add_placed : is_use g.of.bit_use ≡ true → (new : ℕ → Option GroupBits) → new g.block ≡ Some (record { bits = g.bits; slot = g.of.slot }) → ((q : ℕ) → q ≢ g.block → new q ≡ place q) → ArePlaced is_use (push gs g) new
  add_placed is new here others = record {
    told = λ s kept at. elim (cases_eq s g.block) [
      | inl same ↦ any_last (is_kept_as is_use s kept) gs g (kept_here s kept same (some_is (sym here ∙ (sym (ap new same) ∙ at))))
      | inr apart ↦ any_before (is_kept_as is_use s kept) gs g (are.told s kept (sym (others s apart) ∙ at))
    ];
    none = λ s at. elim (cases_eq s g.block) [
      | inl same ↦ absurd (some_not_none (sym here ∙ (sym (ap new same) ∙ at)))
      | inr apart ↦ none_of (is_at_block is_use s) gs g (are.none s (sym (others s apart) ∙ at)) (at_other is_use s g (λ e. apart (sym e)))
    ];
  }
    where
      kept_here : (s : ℕ) (kept : GroupBits) → s ≡ g.block → record { bits = g.bits; slot = g.of.slot } ≡ kept → is_kept_as is_use s kept g ≡ true
      kept_here s kept same e =
          rw (is, same, sym (ap (λ k. k.bits) e), sym (ap (λ k. k.slot) e), eq-eqb g.block g.block refl, eq-eqb g.bits g.bits refl) (eq-eqb g.of.slot g.of.slot refl)
