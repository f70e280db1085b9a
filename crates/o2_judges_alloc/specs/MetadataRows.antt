-- Extent blocks and refcount blocks by rows: their uses, and the blocks that groups of metadata give out.
use Rattle.std.specs.Prelude.{◌≡◌, ℕ, ◌+◌, ◌^◌, Bool, ◌&&◌, ◌==◌, nat_lt, List, ◌∷◌, ◌++◌, map, flat_map}
use Rattle.std.specs.List.{list_any}
use Rattle.o2_model.specs.Allocators.{are_metadata}
use Rattle.o2_tables.specs.declared.groups.GroupRow.{GroupRow}
use Rattle.o2_tables.specs.declared.inodes.InodeRow.{InodeRow}
use Rattle.o2_tables.specs.declared.refcounts.RefcountTreeRow.{RefcountTreeRow}
use Rattle.o2_tally.specs.Gathered.{count_of}
use Rattle.o2_tally.specs.declared.counts.Counts.{Counts}
use Rattle.o2_view.specs.Plans.{is_in_runs}

-- ---- the uses
-- the extent blocks of the inode's lists
abbrev pub blocks_of_lists : InodeRow → List ℕ
blocks_of_lists r = map (λ x. x.block) r.extent_blocks

-- the root of the tree, the extent blocks of its list, and its leaves
abbrev pub blocks_of_tree : RefcountTreeRow → List ℕ
blocks_of_tree t = t.root.block ∷ map (λ x. x.block) t.extent_blocks ++ map (λ x. x.block) t.leaves

abbrev pub uses_of : List InodeRow → List RefcountTreeRow → List ℕ
uses_of inodes trees = flat_map blocks_of_lists inodes ++ flat_map blocks_of_tree trees

-- ---- the blocks that are given out
-- the group is one of metadata, its blocks have numbers of 64 bits, and the block stands for a bit above 0
abbrev pub gives : ℕ → GroupRow → Bool
gives b r =
    are_metadata r.group.of.bit_use
    && nat_lt (r.group.block + r.group.bits) (2 ^ 64)
    && nat_lt r.group.block b
    && nat_lt b (r.group.block + r.group.bits)

-- The blocks in these runs are those that groups of metadata give out.
pub record AreGiven (rows : List GroupRow) (runs : List (ℕ × ℕ)) : Type 0 where
  pub each : (b : ℕ) → is_in_runs runs b ≡ list_any (gives b) rows

-- ---- what META_BLOCK asks
-- the block is given out, and is used once
abbrev pub is_sound_use : List (ℕ × ℕ) → Counts → ℕ → Bool
is_sound_use given counts b = is_in_runs given b && count_of counts b == 1
