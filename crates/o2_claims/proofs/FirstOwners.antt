-- The first owner of a cluster, with one claim more.
use Rattle.std.proofs.Common.{◌≡◌, inl, inr, ℕ, ◌<◌, ◌≤◌, is_some, arith, Bool, true, false, cond, ◌==◌, List, [], ◌∷◌, find, Option, Some, None, option_map, refl, sym, ◌∙◌, ap}
use Rattle.std.specs.Option.{option_or}
use Rattle.std.specs.Ordering.{nat_cmp, is_eq}
use Rattle.std.proofs.lemmas.Bool.{cases_Bool, eqb-true}
use Rattle.std.proofs.lemmas.Bool.Decides.{nat_tests}
use Rattle.std.proofs.lemmas.List.Folds.{find-append}
use Rattle.o2_model.specs.declared.claim.Claim.{Claim}
use Rattle.o2_model.specs.declared.claim.Owner.{Owner}
use Rattle.o2_model.specs.Words.{push}
use Rattle.o2_model.specs.Claims.{owner_in, is_claimed}
use Rattle.o2_claims.specs.Owners.{clusters_of, owner_of, has_owner, AreOwners}
use Rattle.o2_claims.specs.declared.claims.Claims.{Claims}
use Rattle.o2_claims.proofs.Numbers.{is_eq_number}

-- the owner by the claims, else by the one more
one_more : (claims : List Claim) (k : Claim) (q : ℕ) → owner_in (push claims k) q ≡ option_or (owner_in claims q) (cond (k.cluster == q) (Some k.owner) None)
one_more claims k q = ap (option_map (λ (j : Claim). j.owner)) (find-append (λ (j : Claim). j.cluster == q) claims (k ∷ [])) ∙ by (find (λ (j : Claim). j.cluster == q) claims) (k.cluster == q)
  where
    by : (o : Option Claim) (b : Bool) → option_map (λ (j : Claim). j.owner) (option_or o (cond b (Some k) None)) ≡ option_or (option_map (λ (j : Claim). j.owner) o) (cond b (Some k.owner) None)
    by (Some j) b = refl
    by None true = refl
    by None false = refl

none_more : (o : Option Owner) → option_or o None ≡ o
none_more (Some w) = refl
none_more None = refl

another : (claims : List Claim) (k : Claim) (q : ℕ) → (k.cluster == q) ≡ false → owner_in (push claims k) q ≡ owner_in claims q
another claims k q other = one_more claims k q ∙ (ap (λ b. option_or (owner_in claims q) (cond b (Some k.owner) None)) other ∙ none_more (owner_in claims q))

module _ (claims : List Claim) (k : Claim) (n : ℕ) (old : ℕ → Option Owner) (within : k.cluster < n) (are : (q : ℕ) → q < n → old q ≡ owner_in claims q) where
  -- the cluster had an owner, which stays
  pub had_owner : (w : Owner) → old k.cluster ≡ Some w → (q : ℕ) → q < n → old q ≡ owner_in (push claims k) q
  had_owner w had q low = elim (cases_Bool (k.cluster == q)) [
    | inl same ↦
        let here : owner_in claims q ≡ Some w = sym (are q low) ∙ (ap old (sym (eqb-true k.cluster q same)) ∙ had) in
        are q low ∙ (here ∙ sym (one_more claims k q ∙ ap (λ o. option_or o (cond (k.cluster == q) (Some k.owner) None)) here))
    | inr other ↦ are q low ∙ sym (another claims k q other)
  ]

  -- it had none, and now it has this one
  pub new_owner : (new : ℕ → Option Owner) → old k.cluster ≡ None → new k.cluster ≡ Some k.owner → ((q : ℕ) → is_eq (nat_cmp k.cluster q) ≡ false → new q ≡ old q) → (q : ℕ) → q < n → new q ≡ owner_in (push claims k) q
  new_owner new none has others q low = elim (cases_Bool (k.cluster == q)) [
    | inl same ↦
        let here : owner_in claims q ≡ None = sym (are q low) ∙ (ap old (sym (eqb-true k.cluster q same)) ∙ none) in
        ap new (sym (eqb-true k.cluster q same)) ∙ (has ∙ sym (one_more claims k q ∙ (ap (λ o. option_or o (cond (k.cluster == q) (Some k.owner) None)) here ∙ ap (λ b. cond b (Some k.owner) None) same)))
    | inr other ↦ others q (is_eq_number k.cluster q ∙ other) ∙ (are q low ∙ sym (another claims k q other))
  ]

-- ---- by the list of claims
found_is : (claims : List Claim) (c : ℕ) → is_some (owner_in claims c) ≡ is_claimed claims c
found_is [] c = refl
found_is (k ∷ ks) c = elim (cases_Bool (k.cluster == c)) [
  | inl same ↦ rw (same, turned k.cluster c true same) refl
  | inr other ↦ rw (other, turned k.cluster c false other) (found_is ks c)
]
  where
    turned : (a b : ℕ) (r : Bool) → (a == b) ≡ r → (b == a) ≡ r
    turned a b true h = grind (arith, nat_tests)
    turned a b false h = grind (arith, nat_tests)

-- A cluster has an owner where one of the claims names it.
pub claimed_is : (claims : List Claim) (kept : Claims) (c : ℕ) → AreOwners claims kept → c < clusters_of kept → has_owner kept c ≡ is_claimed claims c
claimed_is claims kept c are low = ap is_some (are.each c low) ∙ found_is claims c

-- Behind the last cluster none has an owner.
pub none_past : (kept : Claims) (c : ℕ) → clusters_of kept ≤ c → has_owner kept c ≡ false
unfolding clusters_of owner_of
none_past kept c past = kept.below c past
