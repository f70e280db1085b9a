-- Where nothing fails, each index claims its clusters, and its leaves are held.
use Rattle.std.proofs.Common.{◌≡◌, inl, inr, ⊎_elim, ℕ, zero, suc, ◌+◌, ◌<◌, ◌≤◌, Bool, true, List, [], ◌∷◌, ◌++◌, refl, sym, ◌∙◌, subst, arith}
use Rattle.std.specs.Prelude.{filter, fold, nat_lt}
use Rattle.std.specs.List.{list_any, Contains, range_with_len}
use Rattle.std.proofs.lemmas.Bool.{cases_Bool, or_left, or_right, lt-ltb, le-ltb}
use Rattle.std.proofs.lemmas.List.Folds.{list_any-append}
use Rattle.o2_model.specs.declared.claim.Claim.{Claim}
use Rattle.o2_model.specs.declared.claim.Owner.TheVariants.{Index}
use Rattle.o2_model.specs.Words.{among}
use Rattle.o2_model.specs.Volume.{Volume, blocks}
use Rattle.o2_model.specs.Groups.{inodes_of}
use Rattle.o2_model.specs.Indexes.{is_indexed, indexed_directories, index_extents, index_clusters, index_leaves}
use Rattle.o2_model.specs.SoundIndexes.{is_sound_index}
use Rattle.o2_model.specs.Claims.{claims_by, claimed_clusters, structure_claims, inode_claims, with_index, claims_before_index, claims_with_indexes}
use Rattle.o2_model.specs.Failing.{failing}
use Rattle.o2_laws.proofs.Held.HeldBlocks.{is_held}
use Rattle.o2_laws.proofs.Members.{contains_cases}
use Rattle.o2_laws.proofs.Held.LastingClaims.{Lasts, lasts_if, lasts_fold, indexes_last}
use Rattle.o2_laws.proofs.Held.HeldBlocks.{holds, by_claim}
use Rattle.o2_laws.proofs.Held.DataHeld.{under_records}
use Rattle.o2_laws.proofs.Kept.IndexesHold.{index_holds, index_well}

-- ---- rising numbers
-- the numbers rise, each once, from `low` on
abbrev RiseFrom : ℕ → List ℕ → Type 0
RiseFrom low [] = Unit {0}
RiseFrom low (n ∷ ns) = (low ≤ n) × RiseFrom (n + 1) ns

rise_earlier : (low first : ℕ) (ns : List ℕ) → low ≤ first → RiseFrom first ns → RiseFrom low ns
rise_earlier low first [] h r = tt
rise_earlier low first (n ∷ ns) h r = (omega (arith, h, r.0), r.1)

rise_range : (a n : ℕ) → RiseFrom a (range_with_len a n)
rise_range a zero = tt
rise_range a (suc n) = (omega arith, rise_range (a + 1) n)

rise_filter : (p : ℕ → Bool) (low : ℕ) (ns : List ℕ) → RiseFrom low ns → RiseFrom low (filter p ns)
rise_filter p low [] r = tt
rise_filter p low (n ∷ ns) r = elim (cases_Bool (p n)) [
  | inl good ↦ rw good (r.0, rise_filter p (n + 1) ns r.1)
  | inr bad ↦ rw bad (rise_earlier low (n + 1) (filter p ns) (omega (arith, r.0)) (rise_filter p (n + 1) ns r.1))
]

none_before : (d low : ℕ) (ns : List ℕ) → d ≤ low → RiseFrom low ns → filter (λ e. nat_lt e d) ns ≡ []
none_before d low [] h r = refl
none_before d low (n ∷ ns) h r = rw (le-ltb n d (omega (arith, h, r.0))) (none_before d (n + 1) ns (omega (arith, h, r.0)) r.1)

rise_after : (low d : ℕ) (ns : List ℕ) → RiseFrom low ns → Contains ns d → low ≤ d
rise_after low d [] r is = absurd (omega (arith, is.1))
rise_after low d (n ∷ ns) r is = ⊎_elim
    (λ here. omega (arith, here, r.0))
    (λ there. omega (arith, r.0, rise_after (n + 1) d ns r.1 there))
    (contains_cases n d ns is)

indexed_rise : (v : Volume) → RiseFrom 0 (indexed_directories v)
unfolding indexed_directories inodes_of
indexed_rise v = rise_filter (is_indexed v) 0 (inodes_of v) (rise_filter _ 0 (range_with_len 0 (blocks v)) (rise_range 0 (blocks v)))

-- ---- the claims of an index
-- what the claims of the directory's index make so
abbrev Adds : Volume → ℕ → (List Claim → Type 0) → Type 0
Adds v d P = (earlier : List Claim) → P (earlier ++ claims_by (Index d) (index_clusters v d))

-- the claims as they are at this directory, where indexes have theirs one by one
abbrev before : Volume → List Claim → List ℕ → ℕ → List Claim
before v ks ds d = fold (with_index v) ks (filter (λ e. nat_lt e d) ds)

index_here : (P : List Claim → Type 0) → Lasts P → (v : Volume) (d : ℕ) → Adds v d P → (ks : List Claim) (ds : List ℕ) → RiseFrom (d + 1) ds
    → is_sound_index v (claimed_clusters (before v ks (d ∷ ds) d)) d ≡ true
    → P (fold (with_index v) ks (d ∷ ds))
index_here P lasts v d adds ks ds r h =
    let sound : is_sound_index v (claimed_clusters ks) d ≡ true = rw (le-ltb d d (omega arith), none_before d (d + 1) ds (omega arith) r) at h in
    lasts_fold P (with_index v) (λ es e k. lasts_if P lasts _ es _ k) (with_index v ks d) ds (rw sound (adds ks))

index_among : (P : List Claim → Type 0) → Lasts P → (v : Volume) (d low : ℕ) → Adds v d P → (ks : List Claim) (ds : List ℕ) → RiseFrom low ds → Contains ds d
    → is_sound_index v (claimed_clusters (before v ks ds d)) d ≡ true
    → P (fold (with_index v) ks ds)
index_among P lasts v d low adds ks [] r is h = absurd (omega (arith, is.1))
index_among P lasts v d low adds ks (n ∷ ds) r is h = ⊎_elim
    (λ here.
    let r' : RiseFrom (d + 1) ds = subst (λ x. RiseFrom (x + 1) ds) here r.1 in
    let h' : is_sound_index v (claimed_clusters (before v ks (d ∷ ds) d)) d ≡ true = subst (λ x. is_sound_index v (claimed_clusters (before v ks (x ∷ ds) d)) d ≡ true) here h in
    subst (λ x. P (fold (with_index v) ks (x ∷ ds))) (sym here) (index_here P lasts v d adds ks ds r' h'))
    (λ there.
    let earlier : n < d = omega (arith, rise_after (n + 1) d ds r.1 there) in
    index_among P lasts v d (n + 1) adds (with_index v ks n) ds r.1 there (rw (lt-ltb n d earlier) at h))
    (contains_cases n d ds is)

index_claims : (P : List Claim → Type 0) → Lasts P → (v : Volume) (d : ℕ) → Adds v d P → failing v ≡ [] → Contains (indexed_directories v) d → P (claims_with_indexes v)
unfolding claims_before_index claims_with_indexes
index_claims P lasts v d adds none is =
    index_among P lasts v d 0 adds (structure_claims v ++ inode_claims v) (indexed_directories v) (indexed_rise v) is (index_holds v d none is)

-- ---- its leaves
leaf_claimed : (v : Volume) (d b : ℕ) → among (index_leaves v d) b ≡ true → list_any (holds v b) (claims_by (Index d) (index_clusters v d)) ≡ true
unfolding index_clusters
leaf_claimed v d b h = by_claim v b (Index d) (index_clusters v d) refl (under_records v b (index_extents v d).leaves (index_well v d).leaves h)

pub index_leaf_held : (v : Volume) (d b : ℕ) → failing v ≡ [] → Contains (indexed_directories v) d → among (index_leaves v d) b ≡ true → is_held v b ≡ true
unfolding is_held
index_leaf_held v d b none is h =
    let P : List Claim → Type 0 = λ ks. list_any (holds v b) ks ≡ true in
    let lasts : Lasts P = λ ks more k. list_any-append (holds v b) ks more ∙ or_left _ _ k in
    indexes_last P lasts v
    (index_claims P lasts v d (λ earlier. list_any-append (holds v b) earlier (claims_by (Index d) (index_clusters v d)) ∙ or_right _ _ (leaf_claimed v d b h)) none is)
