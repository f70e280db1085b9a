-- Where nothing fails, a journal's clusters have no other use, so that its first block is not held.
use Rattle.std.proofs.Common.{◌≡◌, inl, inr, ℕ, Bool, true, false, ◌&&◌, not, ◌==◌, cond, List, [], ◌∷◌, ◌++◌, refl, sym, ◌∙◌, subst, Option, Some, None, arith}
use Rattle.std.specs.Prelude.{filter, fold}
use Rattle.std.specs.List.{list_any, range_with_len}
use Rattle.std.specs.Option.{option_map_or}
use Rattle.std.proofs.lemmas.Bool.{cases_Bool, and_parts, and_right, or_left, or_right, eq-eqb, eqb-true, not_from_true, false≢true}
use Rattle.std.proofs.lemmas.List.Folds.{list_any-append}
use Rattle.o2_model.specs.declared.claim.Claim.{Claim}
use Rattle.o2_model.specs.declared.claim.Owner.{Owner}
use Rattle.o2_model.specs.declared.claim.Owner.TheVariants.{Inode, Index, LocalAlloc, TruncateLog}
use Rattle.o2_model.specs.declared.system_file.SlotFile.TheVariants as slot_file
use Rattle.o2_model.specs.declared.system_file.SystemFile.TheVariants.{OfSlot}
use Rattle.o2_model.specs.Words.{among}
use Rattle.o2_model.specs.Volume.{Volume}
use Rattle.o2_model.specs.Clusters.{cluster_of}
use Rattle.o2_model.specs.SystemFiles.{system_inode}
use Rattle.o2_model.specs.Groups.{is_inode, inodes_of}
use Rattle.o2_model.specs.Files.{times_in}
use Rattle.o2_model.specs.Journals.{journals}
use Rattle.o2_model.specs.TruncateLogs.{truncate_records}
use Rattle.o2_model.specs.Indexes.{indexed_directories, index_clusters}
use Rattle.o2_model.specs.SoundIndexes.{has_own_index_clusters, is_sound_index}
use Rattle.o2_model.specs.Claims.{claims_by, claimed_clusters, is_claimed, structure_claims, clusters_of, inode_claims, with_index, claims_with_indexes, with_window_of, with_window, claims_with_windows, with_truncation, with_truncate_log, claims_with_truncations, claims_of}
use Rattle.o2_model.specs.Failing.{failing}
use Rattle.o2_model.specs.Owned.{is_first_of_journal}
use Rattle.o2_laws.specs.Agrees.{begins_journal, AgreesBesideJournals}
use Rattle.std.proofs.lemmas.List.Sums.{length-filter}
use Rattle.o2_laws.proofs.Found.{none_of_length, found, any_map, any_flat, passing, passes_of_all}
use Rattle.o2_laws.proofs.Held.LastingClaims.{lasts_fold}
use Rattle.o2_laws.proofs.Held.HeldBlocks.{AgreesOnHeld, holds_bytes, holds, is_held, held_owned}
use Rattle.o2_laws.proofs.Held.DataHeld.{among_inodes}
use Rattle.o2_laws.proofs.Held.HeldTells.{listed_is_inode}
use Rattle.o2_laws.proofs.Held.OwnInodes.{journal_is_inode}
use Rattle.o2_laws.proofs.Members.{contains_among}
use Rattle.o2_laws.proofs.Kept.JournalUses.{IsApart, is_apart, journal_maps}

-- ---- the claims
-- the claim is of the block's cluster
abbrev claims_cluster : Volume → ℕ → Claim → Bool
claims_cluster v b k = k.cluster == cluster_of v b

-- The block's cluster is claimed, and no claim holds the block.
record IsUnheld (v : Volume) (b : ℕ) (ks : List Claim) : Type 0 where
  claimed : list_any (claims_cluster v b) ks ≡ true
  unheld : list_any (holds v b) ks ≡ false

more_unheld : (v : Volume) (b : ℕ) (ks more : List Claim) → list_any (holds v b) more ≡ false → IsUnheld v b ks → IsUnheld v b (ks ++ more)
more_unheld v b ks more apart is = record {
  claimed = list_any-append (claims_cluster v b) ks more ∙ or_left _ _ is.claimed;
  unheld = list_any-append (holds v b) ks more ∙ rw (is.unheld, apart) refl;
}

if_unheld : (v : Volume) (b : ℕ) (c : Bool) (ks more : List Claim) → (c ≡ true → list_any (holds v b) more ≡ false) → IsUnheld v b ks → IsUnheld v b (cond c (ks ++ more) ks)
if_unheld v b true ks more apart is = more_unheld v b ks more (apart refl) is
if_unheld v b false ks more apart is = is

-- an owner that needs nothing of its clusters holds none
none_by : (v : Volume) (b : ℕ) (owner : Owner) (cs : List ℕ) → holds_bytes v owner ≡ false → list_any (holds v b) (claims_by owner cs) ≡ false
none_by v b owner [] needs_none = refl
none_by v b owner (c ∷ cs) needs_none = rw (and_right (c == cluster_of v b) (holds_bytes v owner) needs_none, none_by v b owner cs needs_none) refl

not_kept : (ns : List ℕ) (c : ℕ) → filter (λ n. n == c) ns ≡ [] → list_any (λ n. n == c) ns ≡ false
not_kept [] c none = refl
not_kept (n ∷ ns) c none = elim (cases_Bool (n == c)) [
  | inl same ↦ let some : n ∷ filter (λ n. n == c) ns ≡ [] = rw same at none in cc
  | inr other ↦ rw other (not_kept ns c (rw other at none))
]

not_counted : (ns : List ℕ) (c : ℕ) → times_in ns c ≡ 0 → list_any (λ n. n == c) ns ≡ false
not_counted ns c none = not_kept ns c (none_of_length _ (length-filter (λ n. n == c) ns ∙ none))

-- an index has its clusters for itself
own_clusters : (v : Volume) (claimed : List ℕ) (d : ℕ) → is_sound_index v claimed d ≡ true → has_own_index_clusters v claimed d ≡ true
unfolding is_sound_index
own_clusters v claimed d h = grind arith

index_unheld : (v : Volume) (b d : ℕ) (ks : List Claim) → list_any (claims_cluster v b) ks ≡ true → is_sound_index v (claimed_clusters ks) d ≡ true → list_any (holds v b) (claims_by (Index d) (index_clusters v d)) ≡ false
index_unheld v b d ks claimed sound = elim (cases_Bool (list_any (holds v b) (claims_by (Index d) (index_clusters v d)))) [
  | inr apart ↦ apart
  | inl held ↦
      let c = passing (λ c. c == cluster_of v b && true) (index_clusters v d) (sym (any_map (holds v b) _ (index_clusters v d)) ∙ held) in
      let here : c.item ≡ cluster_of v b = eqb-true c.item (cluster_of v b) (and_parts (c.item == cluster_of v b) true c.passes).0 in
      let own = passes_of_all (λ c. times_in (index_clusters v d) c == 1 && times_in (claimed_clusters ks) c == 0) (index_clusters v d) c.item (own_clusters v (claimed_clusters ks) d sound) c.inside in
      let none = eqb-true (times_in (claimed_clusters ks) c.item) 0 (and_parts (times_in (index_clusters v d) c.item == 1) _ own).1 in
      let earlier : list_any (λ n. n == cluster_of v b) (claimed_clusters ks) ≡ true = any_map (λ n. n == cluster_of v b) (λ (k : Claim). k.cluster) ks ∙ claimed in
      absurd (false≢true (sym (not_counted (claimed_clusters ks) (cluster_of v b) (subst (λ n. times_in (claimed_clusters ks) n ≡ 0) here none)) ∙ earlier))
]

-- ---- all of them
window_unheld : (v : Volume) (b slot : ℕ) (ks : List Claim) (o : Option ℕ) → IsUnheld v b ks → IsUnheld v b (option_map_or (with_window_of v ks slot) o ks)
window_unheld v b slot ks None is = is
window_unheld v b slot ks (Some w) is = if_unheld v b _ ks _ (λ sound. none_by v b (LocalAlloc slot) _ refl) is

log_unheld : (v : Volume) (b slot : ℕ) (ks : List Claim) (o : Option ℕ) → IsUnheld v b ks → IsUnheld v b (option_map_or (λ t. fold (with_truncation v slot) ks (truncate_records v t)) o ks)
log_unheld v b slot ks None is = is
log_unheld v b slot ks (Some t) is =
    lasts_fold (IsUnheld v b) (with_truncation v slot) (λ es r k. if_unheld v b _ es _ (λ sound. none_by v b (TruncateLog slot) _ refl) k) ks (truncate_records v t) is

claims_unheld : (v : Volume) (b : ℕ) → IsUnheld v b (structure_claims v ++ inode_claims v) → IsUnheld v b (claims_of v)
unfolding claims_of claims_with_truncations claims_with_windows claims_with_indexes
claims_unheld v b is =
    let indexes = lasts_fold (IsUnheld v b) (with_index v) (λ ks d k. if_unheld v b _ ks _ (λ sound. index_unheld v b d ks k.claimed sound) k) (structure_claims v ++ inode_claims v) (indexed_directories v) is in
    let windows = lasts_fold (IsUnheld v b) (with_window v) (λ ks slot k. window_unheld v b slot ks (system_inode v (OfSlot slot_file.LocalAlloc slot)) k) _ (range_with_len 0 v.geo.slots) indexes in
    lasts_fold (IsUnheld v b) (with_truncate_log v) (λ ks slot k. log_unheld v b slot ks (system_inode v (OfSlot slot_file.TruncateLog slot)) k) _ (range_with_len 0 v.geo.slots) windows

-- ---- a journal's first block
structures_unheld : (v : Volume) (b : ℕ) → is_claimed (structure_claims v) (cluster_of v b) ≡ false → list_any (holds v b) (structure_claims v) ≡ false
structures_unheld v b unclaimed = elim (cases_Bool (list_any (holds v b) (structure_claims v))) [
  | inr apart ↦ apart
  | inl held ↦
      let k = passing (holds v b) (structure_claims v) held in
      let here = eqb-true k.item.cluster (cluster_of v b) (and_parts (k.item.cluster == cluster_of v b) (holds_bytes v k.item.owner) k.passes).0 in
      absurd (false≢true (sym unclaimed ∙ (any_map (λ n. cluster_of v b == n) (λ (k : Claim). k.cluster) (structure_claims v)
      ∙ found (λ (k : Claim). cluster_of v b == k.cluster) (structure_claims v) k.item k.inside (eq-eqb (cluster_of v b) k.item.cluster (sym here)))))
]

inodes_unheld : (v : Volume) (b j : ℕ) → among (journals v) j ≡ true → IsApart v j (cluster_of v b) → list_any (holds v b) (inode_claims v) ≡ false
unfolding inode_claims
inodes_unheld v b j journal apart = elim (cases_Bool (list_any (holds v b) (inode_claims v))) [
  | inr none ↦ none
  | inl held ↦
      let by = λ (i : ℕ). list_any (holds v b) (claims_by (Inode i) (clusters_of v i)) in
      let i = passing by (inodes_of v) (sym (any_flat (holds v b) (λ i. claims_by (Inode i) (clusters_of v i)) (inodes_of v)) ∙ held) in
      let c = passing (λ c. c == cluster_of v b && holds_bytes v (Inode i.item)) (clusters_of v i.item) (sym (any_map (holds v b) _ (clusters_of v i.item)) ∙ i.passes) in
      let parts = and_parts (c.item == cluster_of v b) (holds_bytes v (Inode i.item)) c.passes in
      let same = apart.inodes i.item (listed_is_inode v i.item i.inside) (found (λ n. n == cluster_of v b) (clusters_of v i.item) c.item c.inside parts.0) in
      let other : not (among (journals v) j) ≡ true = subst (λ x. not (among (journals v) x) ≡ true) same parts.1 in
      absurd (false≢true (sym (not_from_true (among (journals v) j) journal) ∙ other))
]

inode_claimed : (v : Volume) (j b : ℕ) → is_inode v j ≡ true → list_any (λ n. n == cluster_of v b) (clusters_of v j) ≡ true → list_any (claims_cluster v b) (inode_claims v) ≡ true
unfolding inode_claims
inode_claimed v j b is maps =
    any_flat (claims_cluster v b) (λ i. claims_by (Inode i) (clusters_of v i)) (inodes_of v)
    ∙ among_inodes v j (λ i. list_any (claims_cluster v b) (claims_by (Inode i) (clusters_of v i))) is (any_map (claims_cluster v b) _ (clusters_of v j) ∙ maps)

first_unheld : (v : Volume) (j b : ℕ) → failing v ≡ [] → among (journals v) j ≡ true → is_first_of_journal v j b ≡ true → is_held v b ≡ false
unfolding is_held
first_unheld v j b none journal first =
    let maps = journal_maps v j b first in
    let apart = is_apart v j (cluster_of v b) none journal maps in
    (claims_unheld v b (record {
      claimed = list_any-append (claims_cluster v b) (structure_claims v) (inode_claims v) ∙ or_right _ _ (inode_claimed v j b (journal_is_inode v j none journal) maps);
      unheld = list_any-append (holds v b) (structure_claims v) (inode_claims v) ∙ rw (structures_unheld v b apart.structures, inodes_unheld v b j journal apart) refl;
    })).unheld

pub held_begins_none : (v : Volume) (b : ℕ) → failing v ≡ [] → is_held v b ≡ true → begins_journal v b ≡ false
held_begins_none v b none held = elim (cases_Bool (begins_journal v b)) [
  | inr apart ↦ apart
  | inl first ↦
      let j = passing (λ j. is_first_of_journal v j b) (journals v) first in
      absurd (false≢true (sym (first_unheld v j.item b none (contains_among (journals v) j.item j.inside) j.passes) ∙ held))
]

-- Where nothing fails, the held blocks are owned and begin no journal.
pub beside_on_held : (v : Volume) (at : ℕ → List ℕ) → failing v ≡ [] → AgreesBesideJournals v at → AgreesOnHeld v at
beside_on_held v at none agrees = record { same = λ b h. agrees.same b (held_owned v b h) (held_begins_none v b none h) }
