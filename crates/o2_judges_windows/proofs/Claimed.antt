-- Claims, some more at a time, and which clusters are claimed.
use Rattle.std.proofs.Common.{◌≡◌, ℕ, ◌<◌, ◌≤◌, false, cond, ◌||◌, ◌==◌, List, [], ◌∷◌, ◌++◌, find, Option, Some, None, option_map, refl, sym, ◌∙◌, ap, subst, arith}
use Rattle.std.specs.List.{list_any, AllByRecursion}
use Rattle.std.specs.Option.{option_or}
use Rattle.std.proofs.lemmas.Bool.Decides.{nat_tests}
use Rattle.std.proofs.lemmas.List.{append_assoc, map-append}
use Rattle.std.proofs.lemmas.List.Folds.{find-append}
use Rattle.o2_model.specs.declared.claim.Claim.{Claim}
use Rattle.o2_model.specs.declared.claim.Owner.{Owner}
use Rattle.o2_model.specs.Words.{among, push}
use Rattle.o2_model.specs.Claims.{owner_in, claims_by, claimed_clusters}
use Rattle.o2_claims.specs.Owners.{clusters_of, has_owner, AreOwners}
use Rattle.o2_claims.specs.declared.claims.Claims.{Claims}
use Rattle.o2_claims.proofs.FirstOwners.{claimed_is}

-- ---- one claim more
none_more : (o : Option Claim) → option_or o None ≡ o
none_more (Some k) = refl
none_more None = refl

another : (claims : List Claim) (k : Claim) (c : ℕ) → (k.cluster == c) ≡ false → owner_in claims c ≡ owner_in (push claims k) c
another claims k c other =
    let found = find (λ (j : Claim). j.cluster == c) claims in
    sym (ap (option_map (λ (j : Claim). j.owner)) (find-append (λ (j : Claim). j.cluster == c) claims (k ∷ []) ∙ (ap (λ b. option_or found (cond b (Some k) None)) other ∙ none_more found)))

-- a claim of a cluster that the volume has not
pub claim_beyond : (claims : List Claim) (k : Claim) (kept : Claims) → clusters_of kept ≤ k.cluster → AreOwners claims kept → AreOwners (push claims k) kept
claim_beyond claims k kept past are = record { each = λ c low. are.each c low ∙ another claims k c (differ k.cluster c (clusters_of kept) past low) }
  where
    differ : (a c n : ℕ) → n ≤ a → c < n → (a == c) ≡ false
    differ a c n past low = grind (arith, nat_tests)

-- ---- the claims of one owner
pub claims_push : (owner : Owner) (before : List Claim) (cs : List ℕ) (c : ℕ) → push (before ++ claims_by owner cs) (record { owner = owner; cluster = c }) ≡ before ++ claims_by owner (push cs c)
claims_push owner before cs c =
    append_assoc before (claims_by owner cs) (record { owner = owner; cluster = c } ∷ [])
    ∙ ap (λ ks. before ++ ks) (sym (map-append (λ (d : ℕ). record { owner = owner; cluster = d }) cs (c ∷ [])))

pub one_more_owned : (owner : Owner) (before : List Claim) (cs more : List ℕ) (c : ℕ) (kept : Claims) → more ≡ push cs c → AreOwners (push (before ++ claims_by owner cs) (record { owner = owner; cluster = c })) kept
    → AreOwners (before ++ claims_by owner more) kept
one_more_owned owner before cs more c kept is are = rw is (subst (λ ks. AreOwners ks kept) (claims_push owner before cs c) are)

-- ---- whether one of some clusters is claimed
pub owned_is : (claims : List Claim) (kept : Claims) → AreOwners claims kept → (cs : List ℕ) → AllByRecursion (λ c. c < clusters_of kept) cs
    → list_any (has_owner kept) cs ≡ list_any (among (claimed_clusters claims)) cs
owned_is claims kept are [] low = refl
owned_is claims kept are (c ∷ cs) low =
    ap (λ b. b || list_any (has_owner kept) cs) (claimed_is claims kept c are low.0)
    ∙ ap (λ b. among (claimed_clusters claims) c || b) (owned_is claims kept are cs low.1)
