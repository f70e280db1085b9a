-- The lines of the first pairs were put.
use Rattle.std.proofs.Common.{◌≡◌, map, take}
use Rattle.std.specs.List.{concat}
use Rattle.o2_cause.specs.Taken.{Takes}
use Rattle.o2_fsck.specs.Reports.{pair_line}
use Rattle.o2_fsck.proofs.report.put_pairs.Given as goal

abbrev pub invariant-loop-check : goal.invariant-loop-check
invariant-loop-check g l = record {
  taken : Takes (g.K.Sink.state l.fn.out) (g.K.Sink.state l.out) (concat (map pair_line (take l.check-index l.pairs)));
  faults : (g.K.Sink.state l.out).faults ≡ (g.K.Sink.state l.fn.out).faults;
}
