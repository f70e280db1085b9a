-- The totals of the allocators so far.
use Rattle.std.proofs.Common.{take}
use Rattle.o2_judges_inodes.specs.ClusterRows.{AreTotals}
use Rattle.o2_judges_inodes.proofs.allocator_totals.totals_of.Given as goal

abbrev pub invariant-loop-row : goal.invariant-loop-row
invariant-loop-row l = AreTotals l.geo l.sums (take l.row-index l.allocators) l.totals
