-- The sums over the groups so far.
use Rattle.std.proofs.Common.{take}
use Rattle.o2_judges_alloc.specs.ChainSums.{AreSums}
use Rattle.o2_judges_alloc.proofs.sums.sums_of_groups.Given as goal

abbrev pub invariant-loop-row : goal.invariant-loop-row
invariant-loop-row l = AreSums (take l.row-index l.groups) l.sums
