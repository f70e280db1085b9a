-- Where rows of blocks fail by what they say of where they are from.
use Rattle.std.specs.Prelude.{◌≡◌, ℕ, Bool, List, [], ◌++◌, flat_map, if◌then◌else◌}
use Rattle.o2_model.specs.declared.allocator.BitUse.{BitUse}
use Rattle.o2_model.specs.Faults.{fails_unless}
use Rattle.o2_model.specs.Volume.{Volume}
use Rattle.o2_model.specs.Metadata.{has_origin}
use Rattle.o2_tables.specs.declared.inodes.ExtentBlockRow.{ExtentBlockRow}
use Rattle.o2_tables.specs.declared.inodes.InodeRow.{InodeRow}
use Rattle.o2_tables.specs.declared.refcounts.RefcountBlockRow.{RefcountBlockRow}
use Rattle.o2_tables.specs.declared.refcounts.RefcountTreeRow.{RefcountTreeRow}
use Rattle.o2_judges_origin.specs.Placed.{AreOfVolume}
use Rattle.o2_judges_origin.specs.declared.placed.PlacedGroups.{PlacedGroups}

-- These are added, for whatever volume and use the groups are of.
abbrev pub Adds : PlacedGroups → List ℕ → List ℕ → (Volume → (BitUse → Bool) → List ℕ) → Type 0
Adds placed old new added = (v : Volume) (is_use : BitUse → Bool) → AreOfVolume v is_use placed → new ≡ old ++ added v is_use

-- ---- one row
abbrev pub inode_row_faults : Volume → (BitUse → Bool) → InodeRow → List ℕ
inode_row_faults v is_use r = fails_unless r.block (has_origin v is_use r.origin r.block)

abbrev pub extent_block_faults : Volume → (BitUse → Bool) → ExtentBlockRow → List ℕ
extent_block_faults v is_use r = fails_unless r.block (has_origin v is_use r.origin r.block)

abbrev pub refcount_block_faults : Volume → (BitUse → Bool) → RefcountBlockRow → List ℕ
refcount_block_faults v is_use r = if r.is_refcount_block then fails_unless r.block (has_origin v is_use r.origin r.block) else []

-- ---- the rows within a row
abbrev pub list_faults : Volume → (BitUse → Bool) → InodeRow → List ℕ
list_faults v is_use r = flat_map (extent_block_faults v is_use) r.extent_blocks

abbrev pub tree_list_faults : Volume → (BitUse → Bool) → RefcountTreeRow → List ℕ
tree_list_faults v is_use t = flat_map (extent_block_faults v is_use) t.extent_blocks

abbrev pub root_faults : Volume → (BitUse → Bool) → RefcountTreeRow → List ℕ
root_faults v is_use t = refcount_block_faults v is_use t.root

abbrev pub leaf_faults : Volume → (BitUse → Bool) → RefcountTreeRow → List ℕ
leaf_faults v is_use t = flat_map (refcount_block_faults v is_use) t.leaves
