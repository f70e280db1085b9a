-- The clusters of the trees so far.
use Rattle.std.proofs.Common.{take}
use Rattle.o2_judges_refcount.specs.CoverRows.{AreCovers}
use Rattle.o2_judges_refcount.proofs.covers.covers_of_trees.Given as goal

abbrev pub invariant-loop-tree : goal.invariant-loop-tree
invariant-loop-tree l = AreCovers (take l.tree-index l.trees) l.covers
