-- Where nothing fails, blocks that agree on the held ones have the same claims.
use Rattle.std.proofs.Common.{◌≡◌, ℕ, not, List, [], ◌++◌, refl, sym, ◌∙◌, ap, Option, Some, None}
use Rattle.std.specs.Prelude.{filter, flat_map, fold, nat_lt}
use Rattle.std.specs.List.{Contains, range_with_len}
use Rattle.std.specs.Option.{option_map_or}
use Rattle.o2_ondisk.specs.declared.truncate_rec.TruncateRec.{TruncateRec}
use Rattle.o2_model.specs.declared.claim.Claim.{Claim}
use Rattle.o2_model.specs.declared.claim.Owner.TheVariants.{Inode}
use Rattle.o2_model.specs.declared.system_file.SlotFile.TheVariants.{LocalAlloc, TruncateLog}
use Rattle.o2_model.specs.declared.system_file.SystemFile.TheVariants.{OfSlot}
use Rattle.o2_model.specs.Volume.{Volume, over}
use Rattle.o2_model.specs.LeafRecords.{clusters_under}
use Rattle.o2_model.specs.SystemFiles.{system_inode}
use Rattle.o2_model.specs.Groups.{GroupWalk, is_of_clusters, inodes_of}
use Rattle.o2_model.specs.Indexes.{indexed_directories}
use Rattle.o2_model.specs.Windows.{window_clusters, is_sound_window}
use Rattle.o2_model.specs.TruncateLogs.{is_sound_truncate_header, truncate_records, is_sound_truncation}
use Rattle.o2_model.specs.Claims.{claims_by, structure_claims, clusters_of, inode_claims, with_index, claims_before_index, claims_with_indexes, with_window_of, with_window, claims_with_windows, with_truncation, with_truncate_log, claims_with_truncations, claims_of}
use Rattle.o2_model.specs.Failing.{failing}
use Rattle.o2_laws.proofs.Held.HeldBlocks.{AgreesOnHeld}
use Rattle.o2_laws.proofs.Members.{contains_filter}
use Rattle.o2_laws.proofs.Agreeing.{flat_map_agree, fold_agree}
use Rattle.o2_laws.proofs.Held.GroupsHeld.{super_claims, global_claims, backup_claims, clusters_claimed_by, structures-are}
use Rattle.o2_laws.proofs.SameAllocators.{inode_same}
use Rattle.o2_laws.proofs.Held.HeldTells.{listed_is_inode}
use Rattle.o2_laws.proofs.Held.HeldTables.{held_tell_system_files, held_tell_groups, held_tell_inodes}
use Rattle.o2_laws.proofs.Kept.IndexesKeep.{held_tell_indexed, held_tell_index_clusters}
use Rattle.o2_laws.proofs.Kept.SoundIndexesKeep.{held_tell_sound_index}
use Rattle.o2_laws.proofs.Kept.MetadataKeeps.{held_tell_records}

-- ---- of structures and inodes
pub held_tell_structure_claims : (v : Volume) (at : ℕ → List ℕ) → failing v ≡ [] → AgreesOnHeld v at → structure_claims (over v at) ≡ structure_claims v
held_tell_structure_claims v at none agrees =
    let fixed = (super_claims v ++ global_claims v) ++ backup_claims v in
    structures-are (over v at)
    ∙ (ap (λ (w : GroupWalk). fixed ++ flat_map (clusters_claimed_by v) (filter (λ g. not (is_of_clusters g)) w.groups)) (held_tell_groups v at none agrees)
    ∙ sym (structures-are v))

pub held_tell_inode_claims : (v : Volume) (at : ℕ → List ℕ) → failing v ≡ [] → AgreesOnHeld v at → inode_claims (over v at) ≡ inode_claims v
unfolding inode_claims
held_tell_inode_claims v at none agrees =
    ap (flat_map (λ b. claims_by (Inode b) (clusters_of (over v at) b))) (held_tell_inodes v at none agrees)
    ∙ flat_map_agree (λ b. claims_by (Inode b) (clusters_of (over v at) b)) (λ b. claims_by (Inode b) (clusters_of v b)) (inodes_of v)
    (λ b is. ap (λ rs. claims_by (Inode b) (flat_map (clusters_under v) rs)) (held_tell_records v at b none agrees (listed_is_inode v b is)))

-- ---- of indexes
with_index_same : (v : Volume) (at : ℕ → List ℕ) → failing v ≡ [] → AgreesOnHeld v at → (ks : List Claim) (d : ℕ) → Contains (indexed_directories v) d
    → with_index (over v at) ks d ≡ with_index v ks d
with_index_same v at none agrees ks d is =
    rw (held_tell_sound_index v at _ d none agrees is, held_tell_index_clusters v at d none agrees is) refl

pub held_tell_claims_before_index : (v : Volume) (at : ℕ → List ℕ) (d : ℕ) → failing v ≡ [] → AgreesOnHeld v at → claims_before_index (over v at) d ≡ claims_before_index v d
unfolding claims_before_index
held_tell_claims_before_index v at d none agrees =
    rw (held_tell_structure_claims v at none agrees, held_tell_inode_claims v at none agrees, held_tell_indexed v at none agrees)
    (fold_agree (with_index (over v at)) (with_index v) (structure_claims v ++ inode_claims v) (filter (λ e. nat_lt e d) (indexed_directories v))
    (λ ks e is. with_index_same v at none agrees ks e (contains_filter (λ e. nat_lt e d) (indexed_directories v) e is).0))

pub held_tell_claims_with_indexes : (v : Volume) (at : ℕ → List ℕ) → failing v ≡ [] → AgreesOnHeld v at → claims_with_indexes (over v at) ≡ claims_with_indexes v
unfolding claims_with_indexes
held_tell_claims_with_indexes v at none agrees =
    rw (held_tell_structure_claims v at none agrees, held_tell_inode_claims v at none agrees, held_tell_indexed v at none agrees)
    (fold_agree (with_index (over v at)) (with_index v) (structure_claims v ++ inode_claims v) (indexed_directories v) (with_index_same v at none agrees))

-- ---- of windows
pub sound_window_same : (v : Volume) (at : ℕ → List ℕ) (claimed : List ℕ) (b : ℕ) → at b ≡ v.at b → is_sound_window (over v at) claimed b ≡ is_sound_window v claimed b
unfolding is_sound_window window_clusters
sound_window_same v at claimed b same = rw same refl

window_same : (v : Volume) (at : ℕ → List ℕ) (b : ℕ) → at b ≡ v.at b → window_clusters (over v at) b ≡ window_clusters v b
unfolding window_clusters
window_same v at b same = rw same refl

with_window_same : (v : Volume) (at : ℕ → List ℕ) (ks : List Claim) (slot : ℕ) (o : Option ℕ) → ((b : ℕ) → o ≡ Some b → at b ≡ v.at b)
    → option_map_or (with_window_of (over v at) ks slot) o ks ≡ option_map_or (with_window_of v ks slot) o ks
with_window_same v at ks slot None same = refl
with_window_same v at ks slot (Some b) same = rw (sound_window_same v at _ b (same b refl), window_same v at b (same b refl)) refl

pub held_tell_claims_with_windows : (v : Volume) (at : ℕ → List ℕ) (count : ℕ) → failing v ≡ [] → AgreesOnHeld v at
    → claims_with_windows (over v at) count ≡ claims_with_windows v count
unfolding claims_with_windows
held_tell_claims_with_windows v at count none agrees =
    let files = held_tell_system_files v at none agrees in
    ap (λ ks. fold (with_window (over v at)) ks (range_with_len 0 count)) (held_tell_claims_with_indexes v at none agrees)
    ∙ fold_agree (with_window (over v at)) (with_window v) (claims_with_indexes v) (range_with_len 0 count) (λ ks slot is.
    ap (λ o. option_map_or (with_window_of (over v at) ks slot) o ks) (inode_same v at files (OfSlot LocalAlloc slot))
    ∙ with_window_same v at ks slot (system_inode v (OfSlot LocalAlloc slot)) (files.dinodes (OfSlot LocalAlloc slot)))

-- ---- of truncate logs
pub truncate_header_same : (v : Volume) (at : ℕ → List ℕ) (b : ℕ) → at b ≡ v.at b → is_sound_truncate_header (over v at) b ≡ is_sound_truncate_header v b
unfolding is_sound_truncate_header
truncate_header_same v at b same = rw same refl

pub truncate_records_same : (v : Volume) (at : ℕ → List ℕ) (b : ℕ) → at b ≡ v.at b → truncate_records (over v at) b ≡ truncate_records v b
unfolding truncate_records
truncate_records_same v at b same = rw (truncate_header_same v at b same, same) refl

pub sound_truncation_same : (v : Volume) (at : ℕ → List ℕ) (claimed : List ℕ) (r : TruncateRec) → is_sound_truncation (over v at) claimed r ≡ is_sound_truncation v claimed r
unfolding is_sound_truncation
sound_truncation_same v at claimed r = refl

pub with_truncation_same : (v : Volume) (at : ℕ → List ℕ) (slot : ℕ) (ks : List Claim) (r : TruncateRec) → with_truncation (over v at) slot ks r ≡ with_truncation v slot ks r
with_truncation_same v at slot ks r = rw (sound_truncation_same v at _ r) refl

with_log_same : (v : Volume) (at : ℕ → List ℕ) (ks : List Claim) (slot : ℕ) (o : Option ℕ) → ((b : ℕ) → o ≡ Some b → at b ≡ v.at b)
    → option_map_or (λ b. fold (with_truncation (over v at) slot) ks (truncate_records (over v at) b)) o ks ≡ option_map_or (λ b. fold (with_truncation v slot) ks (truncate_records v b)) o ks
with_log_same v at ks slot None same = refl
with_log_same v at ks slot (Some b) same =
    ap (fold (with_truncation (over v at) slot) ks) (truncate_records_same v at b (same b refl))
    ∙ fold_agree (with_truncation (over v at) slot) (with_truncation v slot) ks (truncate_records v b) (λ es r is. with_truncation_same v at slot es r)

pub held_tell_claims_with_truncations : (v : Volume) (at : ℕ → List ℕ) (count : ℕ) → failing v ≡ [] → AgreesOnHeld v at
    → claims_with_truncations (over v at) count ≡ claims_with_truncations v count
unfolding claims_with_truncations
held_tell_claims_with_truncations v at count none agrees =
    let files = held_tell_system_files v at none agrees in
    ap (λ ks. fold (with_truncate_log (over v at)) ks (range_with_len 0 count)) (held_tell_claims_with_windows v at v.geo.slots none agrees)
    ∙ fold_agree (with_truncate_log (over v at)) (with_truncate_log v) (claims_with_windows v v.geo.slots) (range_with_len 0 count) (λ ks slot is.
    ap (λ o. option_map_or (λ b. fold (with_truncation (over v at) slot) ks (truncate_records (over v at) b)) o ks) (inode_same v at files (OfSlot TruncateLog slot))
    ∙ with_log_same v at ks slot (system_inode v (OfSlot TruncateLog slot)) (files.dinodes (OfSlot TruncateLog slot)))

-- ---- all of them
pub held_tell_claims : (v : Volume) (at : ℕ → List ℕ) → failing v ≡ [] → AgreesOnHeld v at → claims_of (over v at) ≡ claims_of v
unfolding claims_of
held_tell_claims v at none agrees = held_tell_claims_with_truncations v at v.geo.slots none agrees
