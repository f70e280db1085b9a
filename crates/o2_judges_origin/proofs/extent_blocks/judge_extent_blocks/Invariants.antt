-- Those of the extent blocks so far were added.
use Rattle.std.proofs.Common.{take, flat_map}
use Rattle.o2_judges_origin.specs.OriginRows.{Adds, extent_block_faults}
use Rattle.o2_judges_origin.proofs.extent_blocks.judge_extent_blocks.Given as goal

abbrev pub invariant-loop-row : goal.invariant-loop-row
invariant-loop-row l = Adds l.placed l.fn.found.items l.found.items (λ v is_use. flat_map (extent_block_faults v is_use) (take l.row-index l.blocks))
