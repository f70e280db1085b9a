-- Who claims each cluster.
use Rattle.std.specs.Prelude.{ℕ, ◌+◌, ◌*◌, Bool, not, ◌==◌, nat_lt, List, ◌++◌, map, flat_map, filter, find, fold, if◌then◌else◌, Option, option_map}
use Rattle.std.specs.List.{range_with_len}
use Rattle.std.specs.Option.{option_map_or}
use Rattle.o2_ondisk.specs.declared.truncate_rec.TruncateRec.{TruncateRec}
use Rattle.o2_model.specs.declared.claim.Claim.{Claim}
use Rattle.o2_model.specs.declared.claim.Owner.{Owner}
use Rattle.o2_model.specs.declared.claim.Owner.TheVariants.{Super, GlobalGroup, Backup, Suballocator, Inode, Index, LocalAlloc, TruncateLog}
use Rattle.o2_model.specs.declared.system_file.SlotFile.TheVariants as slot_file
use Rattle.o2_model.specs.declared.system_file.SystemFile.TheVariants.{OfSlot}
use Rattle.o2_model.specs.Words.{among}
use Rattle.o2_model.specs.Orders.{from_to}
use Rattle.o2_model.specs.Volume.{Volume}
use Rattle.o2_model.specs.Clusters.{cluster_of}
use Rattle.o2_model.specs.ClusterGroups.{group_size, group_count, backup_clusters}
use Rattle.o2_model.specs.Inodes.{records_of}
use Rattle.o2_model.specs.SystemFiles.{system_inode}
use Rattle.o2_model.specs.Groups.{groups, group_clusters, is_of_clusters, inodes_of}
use Rattle.o2_model.specs.LeafRecords.{clusters_under}
use Rattle.o2_model.specs.Indexes.{indexed_directories, index_clusters}
use Rattle.o2_model.specs.SoundIndexes.{is_sound_index}
use Rattle.o2_model.specs.Windows.{window_clusters, is_sound_window}
use Rattle.o2_model.specs.TruncateLogs.{truncate_records, truncated_clusters, is_sound_truncation}

-- ---- claims
abbrev pub claims_by : Owner → List ℕ → List Claim
claims_by owner clusters = map (λ c. record { owner = owner; cluster = c }) clusters

-- the clusters that are claimed
abbrev pub claimed_clusters : List Claim → List ℕ
claimed_clusters claims = map (λ k. k.cluster) claims

abbrev pub is_claimed : List Claim → ℕ → Bool
is_claimed claims c = among (claimed_clusters claims) c

-- the first that claims the cluster
abbrev pub owner_in : List Claim → ℕ → Option Owner
owner_in claims c = option_map (λ k. k.owner) (find (λ k. k.cluster == c) claims)

-- ---- of structures and inodes
-- the clusters up to the first group descriptor, later group descriptors, backups, and groups of blocks
unfoldable pub structure_claims : Volume → List Claim
structure_claims v =
    claims_by Super (range_with_len 0 (cluster_of v v.geo.first_group + 1))
    ++ claims_by GlobalGroup (map (λ i. i * group_size v) (from_to 1 (group_count v)))
    ++ claims_by Backup (backup_clusters v)
    ++ flat_map (λ g. claims_by (Suballocator g.of.block) (group_clusters v g.block g.bits)) (filter (λ g. not (is_of_clusters g)) (groups v))

-- the clusters that an inode maps
abbrev pub clusters_of : Volume → ℕ → List ℕ
clusters_of v b = flat_map (clusters_under v) (records_of v b)

unfoldable pub inode_claims : Volume → List Claim
inode_claims v = flat_map (λ b. claims_by (Inode b) (clusters_of v b)) (inodes_of v)

-- ---- of what is judged by the claims before it
-- a directory's index, where it holds
abbrev pub with_index : Volume → List Claim → ℕ → List Claim
with_index v earlier d =
    if is_sound_index v (claimed_clusters earlier) d then earlier ++ claims_by (Index d) (index_clusters v d) else earlier

-- with the indexes of the directories below this one
unfoldable pub claims_before_index : Volume → ℕ → List Claim
claims_before_index v d = fold (with_index v) (structure_claims v ++ inode_claims v) (filter (λ e. nat_lt e d) (indexed_directories v))

-- with all indexes
unfoldable pub claims_with_indexes : Volume → List Claim
claims_with_indexes v = fold (with_index v) (structure_claims v ++ inode_claims v) (indexed_directories v)

-- the window in a dinode, where it holds
abbrev pub with_window_of : Volume → List Claim → ℕ → ℕ → List Claim
with_window_of v earlier slot b =
    if is_sound_window v (claimed_clusters earlier) b then earlier ++ claims_by (LocalAlloc slot) (window_clusters v b) else earlier

-- that of a slot
abbrev pub with_window : Volume → List Claim → ℕ → List Claim
with_window v earlier slot = option_map_or (with_window_of v earlier slot) (system_inode v (OfSlot slot_file.LocalAlloc slot)) earlier

-- with the windows of the first `count` slots
unfoldable pub claims_with_windows : Volume → ℕ → List Claim
claims_with_windows v count = fold (with_window v) (claims_with_indexes v) (range_with_len 0 count)

-- a truncate record, where it holds
abbrev pub with_truncation : Volume → ℕ → List Claim → TruncateRec → List Claim
with_truncation v slot earlier r =
    if is_sound_truncation v (claimed_clusters earlier) r then earlier ++ claims_by (TruncateLog slot) (truncated_clusters r) else earlier

-- the records of a slot
abbrev pub with_truncate_log : Volume → List Claim → ℕ → List Claim
with_truncate_log v earlier slot =
    option_map_or (λ b. fold (with_truncation v slot) earlier (truncate_records v b)) (system_inode v (OfSlot slot_file.TruncateLog slot)) earlier

-- with the truncate logs of the first `count` slots
unfoldable pub claims_with_truncations : Volume → ℕ → List Claim
claims_with_truncations v count = fold (with_truncate_log v) (claims_with_windows v v.geo.slots) (range_with_len 0 count)

-- Every claim of every cluster, in order: a structure's, an inode's, an index's, a window's, a truncate record's.
unfoldable pub claims_of : Volume → List Claim
claims_of v = claims_with_truncations v v.geo.slots
