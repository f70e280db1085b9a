-- The trees so far are those of the first roots.
use Rattle.std.proofs.Common.{take}
use Rattle.o2_model.specs.Volume.{Volume}
use Rattle.o2_view.specs.Views.{Shows, OnlyReads}
use Rattle.o2_refcount.specs.TreeReadings.{AreTreesRead}
use Rattle.o2_refcount.proofs.trees.read_trees.Given as goal

abbrev pub invariant-loop-root : goal.invariant-loop-root
invariant-loop-root g l = record {
  read : (v : Volume) → Shows l.fn.view l.geo v → AreTreesRead v (take l.root-index l.roots) l.survey;
  reads : OnlyReads l.fn.view l.view;
}
