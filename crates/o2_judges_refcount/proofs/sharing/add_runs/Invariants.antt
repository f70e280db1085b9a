-- The references by the first runs were added.
use Rattle.std.proofs.Common.{◌++◌, List, flat_map, take}
use Rattle.o2_judges_refcount.specs.declared.tree_times.TreeCluster.{TreeCluster}
use Rattle.o2_judges_refcount.specs.References.{references_in_run, AreTimes}
use Rattle.o2_judges_refcount.proofs.sharing.add_runs.Given as goal

abbrev pub invariant-loop-run : goal.invariant-loop-run
invariant-loop-run l = (all : List TreeCluster) → AreTimes all l.fn.times → AreTimes (all ++ flat_map (references_in_run l.root) (take l.run-index l.runs)) l.times
