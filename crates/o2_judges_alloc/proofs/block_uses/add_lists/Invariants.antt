-- The blocks of the inodes so far were put.
use Rattle.std.proofs.Common.{◌≡◌, ◌++◌, flat_map, take}
use Rattle.o2_judges_alloc.specs.MetadataRows.{blocks_of_lists}
use Rattle.o2_judges_alloc.proofs.block_uses.add_lists.Given as goal

abbrev pub invariant-loop-row : goal.invariant-loop-row
invariant-loop-row l = l.uses.items ≡ l.fn.uses.items ++ flat_map blocks_of_lists (take l.row-index l.inodes)
