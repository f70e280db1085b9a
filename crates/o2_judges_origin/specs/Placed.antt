-- Groups placed by their blocks, and what one tells of where a block is from.
use Rattle.std.specs.Prelude.{◌≡◌, ℕ, ◌-◌, Bool, true, false, ◌&&◌, ◌||◌, ◌==◌, List, Option, Some, None}
use Rattle.std.specs.BTreeMap.{get}
use Rattle.std.specs.List.{list_any}
use Rattle.std.specs.Ordering.{nat_cmp}
use Rattle.o2_model.specs.declared.allocator.BitUse.{BitUse}
use Rattle.o2_model.specs.declared.allocator.BitUse.TheVariants.{Clusters, Inodes, Metadata}
use Rattle.o2_model.specs.declared.allocator.Group.{Group}
use Rattle.o2_model.specs.declared.origin.Origin.{Origin}
use Rattle.o2_model.specs.Volume.{Volume}
use Rattle.o2_model.specs.Allocators.{are_clusters, are_inodes, are_metadata}
use Rattle.o2_model.specs.Groups.{groups}
use Rattle.o2_judges_origin.specs.declared.placed.GroupBits.{GroupBits}
use Rattle.o2_judges_origin.specs.declared.placed.GroupPlace.{GroupPlace}
use Rattle.o2_judges_origin.specs.declared.placed.PlacedGroups.{PlacedGroups}

-- ---- one group
abbrev pub place_of : Group → GroupPlace
place_of g = record { block = g.block; bits = g.bits; slot = g.of.slot }

-- the bits stand for blocks, and these have that use
abbrev pub is_block_use : BitUse → BitUse → Bool
is_block_use Clusters u = false
is_block_use Inodes u = are_inodes u
is_block_use Metadata u = are_metadata u

-- the slot and the bit are those of the block in the group, and it names no group or this one
abbrev pub is_origin_in : Origin → ℕ → GroupPlace → Bool
is_origin_in o b p = (o.slot == p.slot && o.bit == b - p.block) && (o.loc == 0 || o.loc == p.block)

-- ---- groups as they are kept
-- it is the group that is kept at this block
abbrev pub is_kept_as : (BitUse → Bool) → ℕ → GroupBits → Group → Bool
is_kept_as is_use block kept g = is_use g.of.bit_use && g.block == block && g.bits == kept.bits && g.of.slot == kept.slot

-- a group with that use, at this block
abbrev pub is_at_block : (BitUse → Bool) → ℕ → Group → Bool
is_at_block is_use block g = is_use g.of.bit_use && g.block == block

-- What is kept are those of the groups with that use, each at its block.
pub record ArePlaced (is_use : BitUse → Bool) (gs : List Group) (place : ℕ → Option GroupBits) : Type 0 where
  pub told : (s : ℕ) (kept : GroupBits) → place s ≡ Some kept → list_any (is_kept_as is_use s kept) gs ≡ true
  pub none : (s : ℕ) → place s ≡ None → list_any (is_at_block is_use s) gs ≡ false

-- The groups are those of the volume with that use of blocks.
pub record AreOfVolume (v : Volume) (is_use : BitUse → Bool) (placed : PlacedGroups) : Type 0 where
  pub kept : ArePlaced is_use (groups v) (get nat_cmp placed.places)
  pub of_blocks : (u : BitUse) → is_use u ≡ true → are_clusters u ≡ false
