-- INODE_CLUSTERS, number 35, at the inode: i_clusters is the number of the clusters of its records; of the global bitmap all of
-- the volume's, of another allocator those of its groups, of an inode without a list 0; a local alloc and a truncate log are not
-- asked.
use Rattle.std.specs.Prelude.{ℕ, ◌+◌, ◌/◌, ◌%◌, ◌^◌, Bool, ◌||◌, ◌==◌, List, sum_by, find, if◌then◌else◌}
use Rattle.std.specs.Option.{option_map_or}
use Rattle.o2_ondisk.specs.Bits.{has_bits, local_alloc_inode_flag, dealloc_inode_flag}
use Rattle.o2_model.specs.declared.allocator.Allocator.{Allocator}
use Rattle.o2_model.specs.Faults.{fails_unless}
use Rattle.o2_model.specs.Volume.{Volume, per_cluster, dinode}
use Rattle.o2_model.specs.LeafRecords.{clusters_in}
use Rattle.o2_model.specs.Inodes.{leaf_records}
use Rattle.o2_model.specs.Allocators.{allocators, are_clusters}
use Rattle.o2_model.specs.Groups.{groups_of}

-- the clusters of an allocator's groups: all of the volume for the global bitmap
abbrev pub allocator_clusters : Volume → Allocator → ℕ
allocator_clusters v a =
    if are_clusters a.bit_use then v.geo.clusters
    else sum_by (λ g. g.bits / per_cluster v) (groups_of v a.block)

-- the clusters that the inode has; without a list there are no leaf records
unfoldable pub cluster_total : Volume → ℕ → ℕ
cluster_total v b =
    option_map_or (allocator_clusters v) (find (λ a. a.block == b) (allocators v)) (clusters_in (leaf_records v b))

-- `OCFS2_LOCAL_ALLOC_FL` and `OCFS2_DEALLOC_FL` of i_flags
abbrev pub unasked_flags : ℕ
unasked_flags = local_alloc_inode_flag + dealloc_inode_flag

unfoldable pub has_cluster_total : Volume → ℕ → Bool
has_cluster_total v b =
    has_bits (dinode v b).flags.0 unasked_flags
    || (dinode v b).clusters == cluster_total v b % 2 ^ 32

-- that of one inode
abbrev pub inode_clusters_faults : Volume → ℕ → List ℕ
inode_clusters_faults v b = fails_unless b (has_cluster_total v b)
