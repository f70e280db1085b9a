-- What is left rises from where the last record ends just where all rise.
use Rattle.std.proofs.Common.{◌↔◌, drop}
use Rattle.o2_extent.specs.Rising.{RiseFrom, AreRising}
use Rattle.o2_extent.proofs.ordered.are_rising.Given as goal

abbrev pub invariant-loop-leaf : goal.invariant-loop-leaf
invariant-loop-leaf l = RiseFrom l.end (drop l.leaf-index l.leaves) ↔ AreRising l.leaves
