-- The runs so far were added, and nothing else.
use Rattle.std.proofs.Common.{◌≡◌, ◌-◌, ◌*◌, ◌^◌, ◌++◌, map, take}
use Rattle.o2_view.specs.declared.run.Run.{Run as Clusters}
use Rattle.o2_chain.proofs.walked.count_as_walked.Given as goal

abbrev pub invariant-loop-run : goal.invariant-loop-run
invariant-loop-run l = record {
  starts : l.walked.starts ≡ l.fn.walked.starts ++ map (λ (run : Clusters). (run.start * 2 ^ (l.geo.cluster_bits - l.geo.block_bits), 1)) (take l.run-index l.before);
  clusters : l.walked.clusters ≡ l.fn.walked.clusters ++ map (λ (run : Clusters). (run.start, run.clusters)) (take l.run-index l.before);
  groups : l.walked.groups ≡ l.fn.walked.groups;
  faults : l.walked.faults ≡ l.fn.walked.faults;
  seen : l.walked.seen ≡ l.fn.walked.seen;
}
