-- The owners of one cluster, as claims come behind others.
use Rattle.std.proofs.Common.{◌≡◌, ◌⊎◌, inl, inr, ℕ, zero, suc, ◌+◌, ◌≤◌, ◌<◌, Bool, true, false, cond, ◌&&◌, ◌||◌, ◌==◌, nat_lt, List, [], ◌∷◌, ◌++◌, length, map, filter, Option, Some, None, refl, sym, ◌∙◌, ap, subst, arith}
use Rattle.std.specs.Prelude.{fold, find, count_by, option_map, not}
use Rattle.std.specs.Option.{option_to_list, option_map_or}
use Rattle.std.specs.List.{range_with_len, list_any, list_all}
use Rattle.std.proofs.lemmas.Bool.{cases_Bool, eqb-true, false≢true}
use Rattle.std.proofs.lemmas.Bool.Decides.{nat_tests}
use Rattle.std.proofs.lemmas.List.{append-nil, map-append}
use Rattle.std.proofs.lemmas.List.Elements.{filter-append}
use Rattle.std.proofs.lemmas.List.Recursion.{is_count_by}
use Rattle.o2_model.specs.declared.claim.Claim.{Claim}
use Rattle.o2_model.specs.declared.claim.Owner.{Owner}
use Rattle.o2_model.specs.Words.{among}
use Rattle.o2_model.specs.Files.{times_in}
use Rattle.o2_model.specs.Claims.{claims_by, claimed_clusters, owner_in}
use Rattle.o2_check.specs.OwnersAt.{owners_in}

abbrev is_at : ℕ → Claim → Bool
is_at c k = k.cluster == c

pub owners_append : (xs ys : List Claim) (c : ℕ) → owners_in (xs ++ ys) c ≡ owners_in xs c ++ owners_in ys c
owners_append xs ys c = ap (map (λ k. k.owner)) (filter-append (is_at c) xs ys) ∙ map-append (λ k. k.owner) (filter (is_at c) xs) (filter (is_at c) ys)

-- an owner's claims stand there as often as the cluster among its own
pub owners_by : (o : Owner) (cs : List ℕ) (c : ℕ) → length (owners_in (claims_by o cs) c) ≡ times_in cs c
owners_by o cs c = is_count_by (λ ns. length (owners_in (claims_by o ns) c)) (λ d. d == c) refl step cs
  where
    step : (d : ℕ) (ds : List ℕ) → length (owners_in (claims_by o (d ∷ ds)) c) ≡ cond (d == c) (1 + length (owners_in (claims_by o ds) c)) (length (owners_in (claims_by o ds) c))
    step d ds = elim (cases_Bool (d == c)) [
      | inl same ↦ rw same (omega arith)
      | inr other ↦ rw other refl
    ]

-- what is not claimed has no owner
pub owners_of_none : (claims : List Claim) (c : ℕ) → among (claimed_clusters claims) c ≡ false → owners_in claims c ≡ []
owners_of_none [] c none = refl
owners_of_none (k ∷ ks) c none = elim (cases_Bool (k.cluster == c)) [
  | inl same ↦ absurd (false≢true (sym none ∙ ap (λ t. t || among (claimed_clusters ks) c) (turned k.cluster c same)))
  | inr other ↦ rw other (owners_of_none ks c (rest k.cluster c ks none))
]
  where
    turned : (a b : ℕ) → (a == b) ≡ true → (b == a) ≡ true
    turned a b p = grind (arith, nat_tests)

    rest : (d c : ℕ) (ks : List Claim) → ((c == d) || among (claimed_clusters ks) c) ≡ false → among (claimed_clusters ks) c ≡ false
    rest d c ks none = elim (cases_Bool (c == d)) [
      | inl same ↦ absurd (false≢true (sym none ∙ ap (λ t. t || among (claimed_clusters ks) c) same))
      | inr other ↦ rw other at none
    ]

-- ---- further claims
-- the cluster has the owners of before; or it had none, and has one at most
abbrev pub Adds : ℕ → List Claim → List Claim → Type 0
Adds c earlier later = (owners_in later c ≡ owners_in earlier c) ⊎ ((owners_in earlier c ≡ []) × (length (owners_in later c) ≤ 1))

pub adds_both : (c : ℕ) (xs ys zs : List Claim) → Adds c xs ys → Adds c ys zs → Adds c xs zs
adds_both c xs ys zs (inl same) (inl again) = inl (again ∙ same)
adds_both c xs ys zs (inl same) (inr one) = inr (sym same ∙ one.0, one.1)
adds_both c xs ys zs (inr one) (inl again) = inr (one.0, subst (λ os. length os ≤ 1) (sym again) one.1)
adds_both c xs ys zs (inr one) (inr more) = inr (one.0, more.1)

pub adds_fold : {A : Type 0} (c : ℕ) (step : List Claim → A → List Claim) → ((earlier : List Claim) (a : A) → Adds c earlier (step earlier a)) → (earlier : List Claim) (items : List A) → Adds c earlier (fold step earlier items)
adds_fold c step adds earlier [] = inl refl
adds_fold c step adds earlier (a ∷ items) = adds_both c earlier (step earlier a) (fold step (step earlier a) items) (adds earlier a) (adds_fold c step adds (step earlier a) items)

-- clusters that are claimed once, and were not before
pub adds_by : (earlier : List Claim) (o : Owner) (cs : List ℕ) (c : ℕ) → (among cs c ≡ true → among (claimed_clusters earlier) c ≡ false) → times_in cs c ≤ 1 → Adds c earlier (earlier ++ claims_by o cs)
adds_by earlier o cs c unclaimed once = elim (cases_Bool (among cs c)) [
  | inl stands ↦
      let none = owners_of_none earlier c (unclaimed stands) in
      inr (none, subst (λ n. n ≤ 1) (sym (ap length (owners_append earlier (claims_by o cs) c ∙ ap (λ os. os ++ owners_in (claims_by o cs) c) none) ∙ owners_by o cs c)) once)
  | inr lacks ↦ inl (owners_append earlier (claims_by o cs) c ∙ (ap (λ os. owners_in earlier c ++ os) (owners_of_none (claims_by o cs) c (ap (λ ns. among ns c) (clusters_by o cs) ∙ lacks)) ∙ append-nil (owners_in earlier c)))
]
  where
    clusters_by : (o : Owner) (cs : List ℕ) → claimed_clusters (claims_by o cs) ≡ cs
    clusters_by o [] = refl
    clusters_by o (d ∷ ds) = ap (λ ns. d ∷ ns) (clusters_by o ds)

-- ---- at most one owner is the first
pub one_is_first : (claims : List Claim) (c : ℕ) → length (owners_in claims c) ≤ 1 → owners_in claims c ≡ option_to_list (owner_in claims c)
one_is_first [] c one = refl
one_is_first (k ∷ ks) c one = elim (cases_Bool (k.cluster == c)) [
  | inl same ↦ rw same (ap (λ os. k.owner ∷ os) (short (owners_in ks c) (rw same at one)))
  | inr other ↦ rw other (one_is_first ks c (rw other at one))
]
  where
    short : (os : List Owner) → suc (length os) ≤ 1 → os ≡ []
    short [] few = refl
    short (o ∷ os) few = absurd (omega (arith, few))
