-- The leaves from this one on are left.
use Rattle.std.proofs.Common.{◌≡◌, ◌++◌, drop}
use Rattle.o2_judges_blocks.specs.LeafRows.{faults_of_leaves}
use Rattle.o2_judges_blocks.proofs.chained.with_other_next.Given as goal

abbrev pub invariant-loop-k : goal.invariant-loop-k
invariant-loop-k l = l.found.items ++ faults_of_leaves (drop l.k l.leaves) ≡ faults_of_leaves l.leaves
