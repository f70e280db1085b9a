-- The places of the fresh blocks of a plan.
use Rattle.std.proofs.Common.{◌≡◌, inl, inr, ℕ, ◌+◌, true, false, List, [], ◌∷◌, ◌++◌, length, refl, sym, ◌∙◌, ap, arith, cond, Option, Some, None}
use Rattle.std.proofs.lemmas.Bool.{cases_eq}
use Rattle.std.proofs.lemmas.Bool.Decides.{nat_tests}
use Rattle.std.proofs.lemmas.List.{get_or_push, get_or_append_left, length-append}
use Rattle.std.proofs.lemmas.List.Sums.{fold-append}
use Rattle.std.proofs.lemmas.Grind.{common_steps}
use Rattle.std.specs.BTreeMap.{is_at}
use Rattle.std.specs.Ordering.{nat_cmp}
use Rattle.std.specs.Prelude.{◌≢◌, ◌==◌}
use Rattle.o2_view.specs.Plans.{last_of}
use Rattle.o2_view.specs.Indexes.{AreLast}

is_same : (a b : ℕ) → a ≡ b → (a == b) ≡ true
is_same a b e = grind (arith, nat_tests)

is_other : (a b : ℕ) → (a ≡ b → ⊥) → (a == b) ≡ false
is_other a b ne = grind (arith, nat_tests)

module _ (blocks : List (ℕ × List ℕ)) (b : ℕ) (bytes : List ℕ) where
  pub last_here : (c : ℕ) → b ≡ c → last_of (blocks ++ (b, bytes) ∷ []) c ≡ Some bytes
  last_here c e = fold-append (λ found e. cond (e.0 == c) (Some e.1) found) None blocks ((b, bytes) ∷ []) ∙ rw (is_same b c e) refl

  pub last_other : (c : ℕ) → (b ≡ c → ⊥) → last_of (blocks ++ (b, bytes) ∷ []) c ≡ last_of blocks c
  last_other c ne = fold-append (λ found e. cond (e.0 == c) (Some e.1) found) None blocks ((b, bytes) ∷ []) ∙ rw (is_other b c ne) refl

  some_is : {i j : ℕ} → Some i ≡ Some j → i ≡ j
  some_is e = cc

  is_none : {A : Type 0} {x : A} → None ≡ Some x → ⊥
  is_none e = cc

  pub places_more : (place new : ℕ → Option ℕ) → AreLast blocks place → new b ≡ Some (length blocks) → ((q : ℕ) → q ≢ b → new q ≡ place q) → AreLast (blocks ++ (b, bytes) ∷ []) new
  places_more place new are here others = record {
    there = λ c i is. elim (cases_eq c b) [
      | inl same ↦ let at : i ≡ length blocks = some_is (sym is ∙ (ap new same ∙ here)) in omega (arith, at, long)
      | inr apart ↦ let before = are.there c i (sym (others c apart) ∙ is) in omega (arith, before, long)
    ];
    is = λ c i d is. elim (cases_eq c b) [
      | inl same ↦ let at : i ≡ length blocks = some_is (sym is ∙ (ap new same ∙ here)) in last_here c (sym same) ∙ ap (λ (e : ℕ × List ℕ). Some e.1) (sym (get_or_push blocks (b, bytes) d i (sym at)))
      | inr apart ↦
          let old = sym (others c apart) ∙ is in
          last_other c (λ e. apart (sym e)) ∙ (are.is c i d old ∙ ap (λ (e : ℕ × List ℕ). Some e.1) (sym (get_or_append_left blocks ((b, bytes) ∷ []) d i (are.there c i old))))
    ];
    none = λ c is. elim (cases_eq c b) [
      | inl same ↦ absurd (is_none (sym is ∙ (ap new same ∙ here)))
      | inr apart ↦ last_other c (λ e. apart (sym e)) ∙ are.none c (sym (others c apart) ∙ is)
    ];
  }
    where
      long : length (blocks ++ (b, bytes) ∷ []) ≡ length blocks + 1
      long = length-append blocks ((b, bytes) ∷ [])

-- other keys of a table
pub apart_keys : (k q : ℕ) → q ≢ k → is_at (nat_cmp k) q ≡ false
apart_keys k q ne = grind (arith, common_steps)
