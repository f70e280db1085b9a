-- The references to the first clusters were added.
use Rattle.std.proofs.Common.{◌++◌, List, map}
use Rattle.std.specs.List.{range_with_len}
use Rattle.o2_judges_refcount.specs.declared.tree_times.TreeCluster.{TreeCluster}
use Rattle.o2_judges_refcount.specs.References.{in_tree, AreTimes}
use Rattle.o2_judges_refcount.proofs.sharing.add_clusters.Given as goal

abbrev pub invariant-loop-k : goal.invariant-loop-k
invariant-loop-k l = (all : List TreeCluster) → AreTimes all l.fn.times → AreTimes (all ++ map (in_tree l.root) (range_with_len l.start l.k)) l.times
