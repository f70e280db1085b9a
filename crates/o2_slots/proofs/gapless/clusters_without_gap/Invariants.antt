-- What is left has no gap from where the last record ends just where all have none.
use Rattle.std.proofs.Common.{◌≡◌, ◌^◌, ◌<◌, drop, take}
use Rattle.o2_model.specs.LeafRecords.{clusters_in, are_without_gap, follow_from}
use Rattle.o2_slots.proofs.gapless.clusters_without_gap.Given as goal

abbrev pub invariant-loop-leaf : goal.invariant-loop-leaf
invariant-loop-leaf l = record {
  follow : follow_from l.end (drop l.leaf-index l.leaves) ≡ are_without_gap l.leaves;
  clusters : l.end ≡ clusters_in (take l.leaf-index l.leaves);
  few : l.end < 2 ^ 33;
}
