-- The groups that the allocators' chains reach, and the inodes that stand on their bits.
use Rattle.std.specs.Prelude.{ℕ, zero, suc, ◌+◌, ◌-◌, ◌*◌, ◌/◌, ◌%◌, ◌^◌, min, Bool, false, ◌&&◌, ◌||◌, not, ◌==◌, nat_lt, nat_le, List, [], ◌∷◌, map, filter, find, slice_index, if◌then◌else◌, Option}
use Rattle.std.specs.List.{range_with_len, list_any, list_all}
use Rattle.std.specs.Option.{option_map_or}
use Rattle.o2_ondisk.specs.GroupDescs.{group_desc_of}
use Rattle.o2_ondisk.specs.Signatures.{group_signature}
use Rattle.o2_ondisk.specs.declared.group_desc.GroupDesc.{GroupDesc}
use Rattle.o2_model.specs.declared.allocator.Allocator.{Allocator}
use Rattle.o2_model.specs.declared.allocator.Group.{Group}
use Rattle.o2_model.specs.Words.{among, push}
use Rattle.o2_model.specs.Volume.{Volume, block_size, per_cluster, blocks, is_in_range, is_valid}
use Rattle.o2_model.specs.Clusters.{cluster_of}
use Rattle.o2_model.specs.ClusterGroups.{group_size, group_count, group_place, group_index, backup_clusters}
use Rattle.o2_model.specs.Allocators.{are_clusters, are_inodes, allocators, chain_heads}

-- ---- a group
-- what the block says as a group descriptor
abbrev pub group_desc : Volume → ℕ → GroupDesc
group_desc v b = group_desc_of (v.at b)

-- bit k of a bitmap that begins at byte `at` of the bytes
abbrev pub is_bit_set_in : ℕ → List ℕ → ℕ → Bool
is_bit_set_in at bytes k = slice_index bytes (at + k / 8) / 2 ^ (k % 8) % 2 == 1

-- bit k of the group whose descriptor is in block b (bg_bitmap)
abbrev pub is_bit_set : Volume → ℕ → ℕ → Bool
is_bit_set v b k = is_bit_set_in 0x40 (v.at b) k

-- The block that bit k stands for in a group of blocks. Whatever speaks of the blocks of a group does so through this word.
abbrev pub block_of_bit : Volume → Group → ℕ → ℕ
block_of_bit v g k = g.block + k

-- the bit that stands for the block, where there is one
abbrev pub bit_of_block : Volume → Group → ℕ → Option ℕ
bit_of_block v g b = find (λ k. block_of_bit v g k == b) (range_with_len 0 g.bits)

-- the clusters of a group of blocks with that many bits
abbrev pub group_clusters : Volume → ℕ → ℕ → List ℕ
group_clusters v b bits = range_with_len (cluster_of v b) (bits / per_cluster v)

abbrev pub is_of_clusters : Group → Bool
is_of_clusters g = are_clusters g.of.bit_use

-- a cluster of a group of blocks
abbrev pub holds_cluster : Volume → ℕ → Group → Bool
holds_cluster v c g = not (is_of_clusters g) && among (group_clusters v g.block g.bits) c

-- ---- a good group
-- it is a group of the global bitmap, in its place and with a bit for each of its clusters
abbrev pub is_bitmap_group : Volume → ℕ → Bool
is_bitmap_group v b =
    nat_lt (group_index v b) (group_count v)
    && group_place v (group_index v b) == b
    && (group_desc v b).bits == min (group_size v) (v.geo.clusters - group_index v b * group_size v)

-- a cluster up to the first group descriptor, of a later one, or of a backup
abbrev pub is_fixed : Volume → ℕ → Bool
is_fixed v c =
    nat_le c (cluster_of v v.geo.first_group)
    || c % group_size v == 0
    || among (backup_clusters v) c

-- it is a group of blocks: whole clusters of the volume, two blocks or more, none of them fixed or of a group that was
-- walked before
abbrev pub is_block_group : Volume → List Group → ℕ → Bool
is_block_group v walked b =
    b % per_cluster v == 0
    && (group_desc v b).bits % per_cluster v == 0
    && nat_le 2 (group_desc v b).bits
    && nat_le (b + (group_desc v b).bits) (blocks v)
    && list_all (λ c. not (is_fixed v c) && not (list_any (holds_cluster v c) walked)) (group_clusters v b (group_desc v b).bits)

-- a good group of the allocator, not walked before, where these groups were
unfoldable pub is_good_group : Volume → Allocator → List Group → ℕ → Bool
is_good_group v a walked b =
    is_in_range v b
    && (group_desc v b).signature.0 == group_signature
    && (group_desc v b).blkno == b
    && (group_desc v b).generation == v.geo.generation
    && (group_desc v b).parent_dinode == a.block
    && nat_le (0x40 + (group_desc v b).size) (block_size v)
    && nat_le (group_desc v b).bits (8 * (group_desc v b).size)
    && (if are_clusters a.bit_use then is_bitmap_group v b else is_block_group v walked b)
    && not (among (map (λ g. g.block) walked) b)

-- ---- the walk
-- What the walk has met so far, in order.
pub record GroupWalk : Type 0 where
  pub groups : List Group
  -- the blocks whose link is wrong
  pub faults : List ℕ

abbrev pub with_group : GroupWalk → Allocator → ℕ → ℕ → ℕ → GroupWalk
with_group w a chain b bits = record w { groups = push w.groups (record { of = a; chain = chain; block = b; bits = bits }) }

abbrev pub with_bad_link : GroupWalk → ℕ → GroupWalk
with_bad_link w holder = record w { faults = push w.faults holder }

-- A chain from this link on, of at most so many groups. It ends with 0, or before a block that is no good group or was walked.
abbrev pub walk_chain : Volume → Allocator → ℕ → ℕ → ℕ → ℕ → GroupWalk → GroupWalk
walk_chain v a chain zero holder link w = w
walk_chain v a chain (suc most) holder link w =
    if link == 0 then w
    else if is_good_group v a w.groups link
    then walk_chain v a chain most link (group_desc v link).next_group (with_group w a chain link (group_desc v link).bits)
    else with_bad_link w holder

-- The chains of an allocator in order. No chain has more groups than the volume has blocks.
abbrev pub walk_chains : Volume → Allocator → ℕ → List ℕ → GroupWalk → GroupWalk
walk_chains v a chain [] w = w
walk_chains v a chain (head ∷ rest) w = walk_chains v a (chain + 1) rest (walk_chain v a chain (blocks v) a.block head w)

abbrev pub walk_allocators : Volume → List Allocator → GroupWalk → GroupWalk
walk_allocators v [] w = w
walk_allocators v (a ∷ rest) w = walk_allocators v rest (walk_chains v a 0 (chain_heads v a) w)

unfoldable pub group_walk : Volume → GroupWalk
group_walk v = walk_allocators v (allocators v) (record { groups = []; faults = [] })

-- the groups that the walk reaches, in order
abbrev pub groups : Volume → List Group
groups v = (group_walk v).groups

-- those of one allocator, named by the block of its dinode
abbrev pub groups_of : Volume → ℕ → List Group
groups_of v allocator = filter (λ g. g.of.block == allocator) (groups v)

-- ---- inodes
-- the block stands for a bit above 0 of the group, and the bit is set
abbrev pub is_on_set_bit : Volume → ℕ → Group → Bool
is_on_set_bit v b g = option_map_or (λ k. nat_lt 0 k && is_bit_set v g.block k) (bit_of_block v g b) false

-- the block stands for a set bit above 0 of a group of inodes
abbrev pub has_inode_bit : Volume → ℕ → Bool
has_inode_bit v b = list_any (λ g. are_inodes g.of.bit_use && is_on_set_bit v b g) (groups v)

unfoldable pub is_inode : Volume → ℕ → Bool
is_inode v b = is_valid v b && has_inode_bit v b

-- the inodes of the volume, rising: the valid dinodes on set bits of inode allocators
unfoldable pub inodes_of : Volume → List ℕ
inodes_of v = filter (is_inode v) (range_with_len 0 (blocks v))
