-- The owners of one cluster, as claims are looked through.
use Rattle.std.proofs.Common.{◌≡◌, inl, inr, ℕ, zero, suc, ◌+◌, ◌-◌, ◌≤◌, ◌<◌, false, ◌==◌, List, [], ◌∷◌, ◌++◌, refl, sym, ◌∙◌, ap, subst, arith}
use Rattle.std.specs.List.{range_with_len}
use Rattle.std.proofs.lemmas.Bool.{cases_Bool, eqb-true}
use Rattle.std.proofs.lemmas.Bool.Decides.{nat_tests}
use Rattle.std.proofs.lemmas.List.{append_assoc, append-nil}
use Rattle.o2_model.specs.declared.claim.Claim.{Claim}
use Rattle.o2_model.specs.declared.claim.Owner.{Owner}
use Rattle.o2_model.specs.Claims.{claims_by}
use Rattle.o2_check.specs.OwnersAt.{owners_in, AddsOwners}
use Rattle.o2_check.proofs.OwnersAt.{owners_append}

-- ---- a run
differs : (a c : ℕ) → c < a → (a == c) ≡ false
differs a c below = grind (arith, nat_tests, below)

passed : (a c : ℕ) → a < c → (a == c) ≡ false
passed a c above = grind (arith, nat_tests, above)

pub run_behind : (o : Owner) (s n c : ℕ) → c < s → owners_in (claims_by o (range_with_len s n)) c ≡ []
run_behind o s zero c below = refl
run_behind o s (suc n) c below = rw (differs s c below) (run_behind o (s + 1) n c (omega (arith, below)))

pub run_before : (o : Owner) (s n c : ℕ) → s + n ≤ c → owners_in (claims_by o (range_with_len s n)) c ≡ []
run_before o s zero c above = refl
run_before o s (suc n) c above = rw (passed s c (omega (arith, above))) (run_before o (s + 1) n c (omega (arith, above)))

pub run_with : (o : Owner) (s n c : ℕ) → s ≤ c → c < s + n → owners_in (claims_by o (range_with_len s n)) c ≡ o ∷ []
run_with o s zero c low high = absurd (omega (arith, low, high))
run_with o s (suc n) c low high = elim (cases_Bool (s == c)) [
  | inl same ↦ rw same (ap (λ os. o ∷ os) (run_behind o (s + 1) n c (let e = eqb-true s c same in omega (arith, e))))
  | inr other ↦ rw other (run_with o (s + 1) n c (further s c low other) (omega (arith, high)))
]
  where
    further : (s c : ℕ) → s ≤ c → (s == c) ≡ false → s + 1 ≤ c
    further s c low other = grind (arith, nat_tests, low, other)

-- ---- one behind the other
pub adds_nothing : (claims : List Claim) (c : ℕ) (owners : List Owner) → owners_in claims c ≡ [] → AddsOwners claims c owners owners
adds_nothing claims c owners none = sym (append-nil owners) ∙ ap (λ os. owners ++ os) (sym none)

pub adds_next : (a b next : List Claim) (c : ℕ) (old mid new : List Owner) → a ++ b ≡ next → AddsOwners a c old mid → AddsOwners b c mid new → AddsOwners next c old new
adds_next a b next c old mid new is first second =
    second
    ∙ ap (λ os. os ++ owners_in b c) first
    ∙ append_assoc old (owners_in a c) (owners_in b c)
    ∙ ap (λ os. old ++ os) (sym (owners_append a b c) ∙ ap (λ ks. owners_in ks c) is)
