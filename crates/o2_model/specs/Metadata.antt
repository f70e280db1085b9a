-- The blocks that extent_allocs give out, and where a block is from.
use Rattle.std.specs.Prelude.{ℕ, Bool, true, false, ◌&&◌, ◌||◌, ◌==◌, nat_lt, List, ◌++◌, flat_map, find, Option}
use Rattle.std.specs.Option.{option_map_or}
use Rattle.o2_model.specs.declared.allocator.BitUse.{BitUse}
use Rattle.o2_model.specs.declared.allocator.Group.{Group}
use Rattle.o2_model.specs.declared.origin.Origin.{Origin}
use Rattle.o2_model.specs.Volume.{Volume, dinode}
use Rattle.o2_model.specs.Extents.{extent_block}
use Rattle.o2_model.specs.Inodes.{extent_blocks_of}
use Rattle.o2_model.specs.Allocators.{are_metadata}
use Rattle.o2_model.specs.Groups.{bit_of_block, groups, inodes_of}
use Rattle.o2_model.specs.RefcountTrees.{refcount_block, refcount_roots, refcount_tree_blocks}

-- ---- where a block is from
-- the block stands for a bit above 0 of the group
abbrev pub is_on_bit : Volume → ℕ → Group → Bool
is_on_bit v b g = option_map_or (λ k. nat_lt 0 k) (bit_of_block v g b) false

-- the group of inodes, or of metadata, that the block is from
unfoldable pub group_with_bit : Volume → (BitUse → Bool) → ℕ → Option Group
group_with_bit v is_use b = find (λ g. is_use g.of.bit_use && is_on_bit v b g) (groups v)

-- the block is from an extent_alloc
abbrev pub is_on_metadata_bit : Volume → ℕ → Bool
is_on_metadata_bit v b = option_map_or (λ g. true) (group_with_bit v are_metadata b) false

abbrev pub inode_origin : Volume → ℕ → Origin
inode_origin v b = record { slot = (dinode v b).suballoc_slot; bit = (dinode v b).suballoc_bit; loc = (dinode v b).suballoc_loc }

abbrev pub extent_block_origin : Volume → ℕ → Origin
extent_block_origin v b = record { slot = (extent_block v b).suballoc_slot; bit = (extent_block v b).suballoc_bit; loc = (extent_block v b).suballoc_loc }

abbrev pub refcount_block_origin : Volume → ℕ → Origin
refcount_block_origin v b = record { slot = (refcount_block v b).suballoc_slot; bit = (refcount_block v b).suballoc_bit; loc = (refcount_block v b).suballoc_loc }

-- the slot and the bit are those of the block in the group
abbrev pub has_slot_and_bit : Volume → Origin → ℕ → Group → Bool
has_slot_and_bit v o b g = o.slot == g.of.slot && option_map_or (λ k. o.bit == k) (bit_of_block v g b) false

-- the same, and it names no group or this one
abbrev pub is_origin : Volume → Origin → ℕ → Group → Bool
is_origin v o b g = has_slot_and_bit v o b g && (o.loc == 0 || o.loc == g.block)

-- it is right as far as the block is from a group of that use
unfoldable pub has_origin : Volume → (BitUse → Bool) → Origin → ℕ → Bool
has_origin v is_use o b = option_map_or (is_origin v o b) (group_with_bit v is_use b) true

-- ---- extent blocks and refcount blocks
-- those of the inodes' lists
unfoldable pub list_blocks : Volume → List ℕ
list_blocks v = flat_map (extent_blocks_of v) (inodes_of v)

-- those of refcount trees
unfoldable pub refcount_blocks : Volume → List ℕ
refcount_blocks v = flat_map (refcount_tree_blocks v) (refcount_roots v)

-- each of them, once for each use
unfoldable pub metadata_blocks : Volume → List ℕ
metadata_blocks v = list_blocks v ++ refcount_blocks v
