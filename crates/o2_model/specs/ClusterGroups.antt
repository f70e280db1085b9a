-- Where the groups of the global bitmap and the backups of the superblock stand.
use Rattle.std.specs.Prelude.{ℕ, ◌+◌, ◌-◌, ◌*◌, ◌/◌, ◌^◌, ◌==◌, nat_lt, List, [], map, filter, if◌then◌else◌}
use Rattle.std.specs.List.{range_with_len}
use Rattle.o2_ondisk.specs.Bits.{has_bits, backup_super_feature}
use Rattle.o2_model.specs.Volume.{Volume, block_size, per_cluster}
use Rattle.o2_model.specs.Clusters.{cluster_of}

-- the clusters of one group: one bit each, as many as fit a block behind the group descriptor (struct ocfs2_group_desc)
abbrev pub group_size : Volume → ℕ
group_size v = 8 * (block_size v - 64)

-- how many groups the clusters need
abbrev pub group_count : Volume → ℕ
group_count v = (v.geo.clusters + group_size v - 1) / group_size v

-- the block of group i: the first at s_first_cluster_group, each other in the first block of its first cluster
abbrev pub group_place : Volume → ℕ → ℕ
group_place v i = if i == 0 then v.geo.first_group else i * group_size v * per_cluster v

-- the group that has the cluster of this block
abbrev pub group_index : Volume → ℕ → ℕ
group_index v b = cluster_of v b / group_size v

-- the clusters of the superblock's backups: those of byte 1 GiB and of each fourfold up to 1 TiB, as far as the volume goes
abbrev pub backup_clusters : Volume → List ℕ
backup_clusters v =
    if has_bits v.geo.compat backup_super_feature
    then filter (λ c. nat_lt c v.geo.clusters) (map (λ k. 2 ^ (30 + 2 * k - v.geo.cluster_bits)) (range_with_len 0 6))
    else []
