-- The first lines were put.
use Rattle.std.proofs.Common.{◌≡◌, take}
use Rattle.std.specs.List.{concat}
use Rattle.o2_cause.specs.Taken.{Takes}
use Rattle.o2_cause.proofs.output.put_lines.Given as goal

abbrev pub invariant-loop-line : goal.invariant-loop-line
invariant-loop-line g l = record {
  taken : Takes (g.K.Sink.state l.fn.out) (g.K.Sink.state l.out) (concat (take l.line-index l.lines));
  faults : (g.K.Sink.state l.out).faults ≡ (g.K.Sink.state l.fn.out).faults;
}
