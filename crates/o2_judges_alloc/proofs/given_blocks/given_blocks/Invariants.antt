-- The blocks of the groups so far.
use Rattle.std.proofs.Common.{take}
use Rattle.o2_judges_alloc.specs.MetadataRows.{AreGiven}
use Rattle.o2_judges_alloc.proofs.given_blocks.given_blocks.Given as goal

abbrev pub invariant-loop-row : goal.invariant-loop-row
invariant-loop-row l = AreGiven (take l.row-index l.groups) l.given
