-- What the tables of a volume are.
use Rattle.std.specs.Prelude.{◌≡◌, ℕ, ◌*◌, ◌<◌, Bool, true, List, map, Option, Some, None, if◌then◌else◌}
use Rattle.std.specs.List.{AllByRecursion}
use Rattle.o2_model.specs.declared.allocator.Allocator.{Allocator}
use Rattle.o2_model.specs.declared.leaf.Leaf.{Leaf}
use Rattle.o2_model.specs.Words.{among}
use Rattle.o2_model.specs.Volume.{Volume, dinode}
use Rattle.o2_model.specs.Clusters.{cluster_of}
use Rattle.o2_model.specs.ClusterGroups.{group_size, group_index}
use Rattle.o2_model.specs.LeafRecords.{is_refcounted}
use Rattle.o2_model.specs.Inodes.{kind, records_of, extent_blocks_of}
use Rattle.o2_model.specs.Allocators.{allocators, chains, is_sound_chain_header, used_of, total_of}
use Rattle.o2_model.specs.Groups.{groups, group_desc, is_bit_set, is_bit_set_in, is_of_clusters, inodes_of}
use Rattle.o2_model.specs.Files.{links_of}
use Rattle.o2_model.specs.Metadata.{inode_origin, extent_block_origin, refcount_block_origin}
use Rattle.o2_model.specs.RefcountTrees.{has_refcount, refcount_roots, refcount_leaves, is_refcount_block, refcount_block, leaf_list, refcounts}
use Rattle.o2_model.specs.Tree.{is_met, tree_entries}
use Rattle.o2_model.specs.Checks.RefTree.{has_tree}
use Rattle.o2_tally.specs.Again.{has_number}
use Rattle.o2_tally.specs.Gathered.{IsCount}
use Rattle.o2_tables.specs.declared.allocators.AllocatorRow.{AllocatorRow}
use Rattle.o2_tables.specs.declared.groups.GroupRow.{GroupRow}
use Rattle.o2_tables.specs.declared.inodes.ClusterRun.{ClusterRun}
use Rattle.o2_tables.specs.declared.inodes.ExtentBlockRow.{ExtentBlockRow}
use Rattle.o2_tables.specs.declared.inodes.InodeRow.{InodeRow}
use Rattle.o2_tables.specs.declared.refcounts.RefcountBlockRow.{RefcountBlockRow}
use Rattle.o2_tables.specs.declared.refcounts.RefcountTreeRow.{RefcountTreeRow}
use Rattle.o2_tables.specs.declared.tree.TreeTable.{TreeTable}

-- ---- allocators
-- The row tells what the allocator's dinode says.
pub record IsAllocatorRow (v : Volume) (row : AllocatorRow) : Type 0 where
  pub used : row.used ≡ used_of (dinode v row.allocator.block).role_data
  pub total : row.total ≡ total_of (dinode v row.allocator.block).role_data
  pub header : row.has_sound_header ≡ is_sound_chain_header v row.allocator
  pub chains : row.chains ≡ chains v row.allocator

-- The rows are those of the allocators, in their order.
pub record IsAllocatorTable (v : Volume) (rows : List AllocatorRow) : Type 0 where
  pub allocators : map (λ r. r.allocator) rows ≡ allocators v
  pub each : AllByRecursion (IsAllocatorRow v) rows

-- ---- groups
-- The row tells what the group's descriptor says.
pub record IsGroupRow (v : Volume) (row : GroupRow) : Type 0 where
  pub chain : row.chain ≡ (group_desc v row.group.block).chain
  pub free_bits : row.free_bits ≡ (group_desc v row.group.block).free_bits_count
  pub first : is_of_clusters row.group ≡ true → row.first ≡ group_index v row.group.block * group_size v
  pub bits : (k : ℕ) → k < row.group.bits → is_bit_set_in 0 row.bitmap k ≡ is_bit_set v row.group.block k

-- The rows are those of the groups that the walk reaches, in order.
pub record IsGroupTable (v : Volume) (rows : List GroupRow) : Type 0 where
  pub groups : map (λ r. r.group) rows ≡ groups v
  pub each : AllByRecursion (IsGroupRow v) rows

-- ---- inodes
-- the clusters under a leaf record
abbrev pub run_of : Volume → Leaf → ClusterRun
run_of v leaf = record { start = cluster_of v leaf.block; clusters = leaf.clusters; is_shared = is_refcounted leaf }

-- the root that the inode names with HAS_REFCOUNT, and the same where it is in range
abbrev pub tree_named : Volume → ℕ → Option ℕ
tree_named v b = if has_refcount v b then Some (dinode v b).refcount_loc else None

abbrev pub tree_of : Volume → ℕ → Option ℕ
tree_of v b = if has_tree v b then Some (dinode v b).refcount_loc else None

-- The row tells what the extent block says of where it is from.
pub record IsExtentBlockRow (v : Volume) (row : ExtentBlockRow) : Type 0 where
  pub origin : row.origin ≡ extent_block_origin v row.block

-- The rows are those of these extent blocks, in order.
pub record AreExtentBlockRows (v : Volume) (blocks : List ℕ) (rows : List ExtentBlockRow) : Type 0 where
  pub listed : map (λ r. r.block) rows ≡ blocks
  pub each : AllByRecursion (IsExtentBlockRow v) rows

-- The row tells what the inode's dinode and its lists say.
pub record IsInodeRow (v : Volume) (row : InodeRow) : Type 0 where
  pub kind : row.kind ≡ kind v row.block
  pub flags : row.flags ≡ (dinode v row.block).flags
  pub links : row.links ≡ links_of (dinode v row.block)
  pub clusters : row.clusters ≡ (dinode v row.block).clusters
  pub origin : row.origin ≡ inode_origin v row.block
  pub named : row.named_tree ≡ tree_named v row.block
  pub tree : row.tree ≡ tree_of v row.block
  pub runs : row.runs ≡ map (run_of v) (records_of v row.block)
  pub extent_blocks : AreExtentBlockRows v (extent_blocks_of v row.block) row.extent_blocks

-- The rows are those of the inodes, rising.
pub record IsInodeTable (v : Volume) (rows : List InodeRow) : Type 0 where
  pub inodes : map (λ r. r.block) rows ≡ inodes_of v
  pub each : AllByRecursion (IsInodeRow v) rows

-- ---- refcount trees
-- The row tells whether the block is a refcount block, and what it then says of where it is from.
pub record IsRefcountBlockRow (v : Volume) (row : RefcountBlockRow) : Type 0 where
  pub is : row.is_refcount_block ≡ is_refcount_block v row.block
  pub origin : row.is_refcount_block ≡ true → row.origin ≡ refcount_block_origin v row.block

-- The row tells what the blocks of the tree say.
pub record IsRefcountTreeRow (v : Volume) (row : RefcountTreeRow) : Type 0 where
  pub root : IsRefcountBlockRow v row.root
  pub users : row.root.is_refcount_block ≡ true → row.users ≡ (refcount_block v row.root.block).count
  pub extent_blocks : AreExtentBlockRows v (leaf_list v row.root.block).blocks row.extent_blocks
  pub named : map (λ r. r.block) row.leaves ≡ refcount_leaves v row.root.block
  pub leaves : AllByRecursion (IsRefcountBlockRow v) row.leaves
  pub records : row.records ≡ (refcounts v row.root.block).records

-- The rows are those of the trees that inodes name, their roots rising.
pub record IsRefcountTreeTable (v : Volume) (rows : List RefcountTreeRow) : Type 0 where
  pub roots : map (λ r. r.root.block) rows ≡ refcount_roots v
  pub each : AllByRecursion (IsRefcountTreeRow v) rows

-- ---- the tree
-- The table tells what the walk met. Where the skeleton holds, what it met are inodes.
pub record IsTreeTable (v : Volume) (tree : TreeTable) : Type 0 where
  pub links : IsCount (map (λ e. e.inode) (tree_entries v)) tree.links
  pub met : (b : ℕ) → has_number tree.met b ≡ is_met v b
  pub inodes : (b : ℕ) → is_met v b ≡ true → among (inodes_of v) b ≡ true
