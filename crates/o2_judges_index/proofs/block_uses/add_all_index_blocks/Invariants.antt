-- The blocks of the indexes so far were put.
use Rattle.std.proofs.Common.{◌≡◌, ◌++◌, flat_map, take}
use Rattle.o2_judges_index.specs.IndexRows.{blocks_of_row}
use Rattle.o2_judges_index.proofs.block_uses.add_all_index_blocks.Given as goal

abbrev pub invariant-loop-row : goal.invariant-loop-row
invariant-loop-row l = l.blocks.items ≡ l.fn.blocks.items ++ flat_map blocks_of_row (take l.row-index l.indexes)
