-- What is free below the next cluster, and which clusters with owners are left.
use Rattle.std.proofs.Common.{is_some}
use Rattle.std.specs.BTreeMap.{get}
use Rattle.std.specs.Ordering.{nat_cmp}
use Rattle.o2_claims.proofs.Gaps.{IsFreeBelow, AreLeft}
use Rattle.o2_claims.proofs.claims.Claims.free_runs.Given as goal

abbrev pub invariant-loop-cluster : goal.invariant-loop-cluster
invariant-loop-cluster l = record {
  can_next : (goal.iterator-loop-cluster).can_next l.cluster-iterator;
  is_finite : (goal.iterator-loop-cluster).is_finite l.cluster-iterator;
  free : IsFreeBelow (λ c. is_some (get nat_cmp l.self.first c)) l.next l.runs;
  left : AreLeft (λ c. is_some (get nat_cmp l.self.first c)) l.next l.self.clusters l.cluster-iterator;
}
