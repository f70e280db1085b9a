-- The sums over the groups so far.
use Rattle.std.proofs.Common.{take}
use Rattle.o2_judges_inodes.specs.ClusterRows.{AreSums}
use Rattle.o2_judges_inodes.proofs.group_clusters.clusters_of_groups.Given as goal

abbrev pub invariant-loop-row : goal.invariant-loop-row
invariant-loop-row l = AreSums l.geo (take l.row-index l.groups) l.sums
