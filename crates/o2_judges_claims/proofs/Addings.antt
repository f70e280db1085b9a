-- Claims that are added behind others.
use Rattle.std.proofs.Common.{◌≡◌, inl, inr, ℕ, ◌<◌, ◌≤◌, false, ◌==◌, List, [], ◌∷◌, ◌++◌, refl, sym, ◌∙◌, subst, arith}
use Rattle.std.proofs.lemmas.Bool.{cases_Bool}
use Rattle.std.proofs.lemmas.Bool.Decides.{nat_tests}
use Rattle.std.proofs.lemmas.List.{append_assoc, append-nil}
use Rattle.o2_model.specs.declared.claim.Claim.{Claim}
use Rattle.o2_model.specs.Claims.{owner_in}
use Rattle.o2_claims.specs.Owners.{clusters_of, AreOwners}
use Rattle.o2_claims.specs.declared.claims.Claims.{Claims}
use Rattle.o2_judges_claims.specs.Adding.{AddsClaims}

-- another cluster keeps its owner
another : (claims : List Claim) (k : Claim) (q : ℕ) → (k.cluster == q) ≡ false → owner_in (claims ++ k ∷ []) q ≡ owner_in claims q
another [] k q other = rw other refl
another (j ∷ js) k q other = elim (cases_Bool (j.cluster == q)) [
  | inl here ↦ rw here refl
  | inr later ↦ rw later (another js k q other)
]

-- A claim of a cluster that the volume does not have changes nothing.
pub adds_past : (claims : Claims) (k : Claim) → clusters_of claims ≤ k.cluster → AddsClaims (k ∷ []) claims claims
adds_past claims k past = λ before are. record { each = λ q low. are.each q low ∙ sym (another before k q (differs k.cluster q (clusters_of claims) past low)) }
  where
    differs : (c q n : ℕ) → n ≤ c → q < n → (c == q) ≡ false
    differs c q n past low = grind (arith, nat_tests)

-- ---- one behind the other
pub adds_none : (claims : Claims) → AddsClaims [] claims claims
adds_none claims = λ before are. subst (λ ks. AreOwners ks claims) (sym (append-nil before)) are

pub adds_both : (a b : List Claim) (old mid new : Claims) → AddsClaims a old mid → AddsClaims b mid new → AddsClaims (a ++ b) old new
adds_both a b old mid new first second = λ before are. subst (λ ks. AreOwners ks new) (append_assoc before a b) (second (before ++ a) (first before are))

-- the same, told as one list
pub adds_next : (a b next : List Claim) (old mid new : Claims) → a ++ b ≡ next → AddsClaims a old mid → AddsClaims b mid new → AddsClaims next old new
adds_next a b next old mid new is first second = subst (λ ks. AddsClaims ks old new) is (adds_both a b old mid new first second)
