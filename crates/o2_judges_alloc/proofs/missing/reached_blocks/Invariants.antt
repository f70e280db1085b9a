-- The blocks of the groups so far.
use Rattle.std.proofs.Common.{take}
use Rattle.o2_judges_alloc.specs.GroupRows.{AreReached}
use Rattle.o2_judges_alloc.proofs.missing.reached_blocks.Given as goal

abbrev pub invariant-loop-row : goal.invariant-loop-row
invariant-loop-row l = AreReached (take l.row-index l.groups) l.reached
