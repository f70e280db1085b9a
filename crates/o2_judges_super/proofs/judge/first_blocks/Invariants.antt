-- The first blocks of the clusters so far.
use Rattle.std.proofs.Common.{◌≡◌, ◌*◌, map, take}
use Rattle.o2_judges_super.proofs.judge.first_blocks.Given as goal

abbrev pub invariant-loop-cluster : goal.invariant-loop-cluster
invariant-loop-cluster l = l.blocks.items ≡ map (λ c. c * l.per_cluster) (take l.cluster-index l.clusters)
