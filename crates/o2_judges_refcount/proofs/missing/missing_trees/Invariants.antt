-- The trees that miss a cluster of the inodes so far.
use Rattle.std.proofs.Common.{take}
use Rattle.o2_judges_refcount.specs.CoverRows.{AreMissing}
use Rattle.o2_judges_refcount.proofs.missing.missing_trees.Given as goal

abbrev pub invariant-loop-row : goal.invariant-loop-row
invariant-loop-row l = AreMissing l.covers (take l.row-index l.inodes) l.roots
