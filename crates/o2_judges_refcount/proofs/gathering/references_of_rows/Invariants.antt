-- The references of the first inodes.
use Rattle.std.proofs.Common.{take}
use Rattle.o2_judges_refcount.specs.References.{AreOfRows}
use Rattle.o2_judges_refcount.proofs.gathering.references_of_rows.Given as goal

abbrev pub invariant-loop-row : goal.invariant-loop-row
invariant-loop-row l = AreOfRows (take l.row-index l.inodes) l.references
