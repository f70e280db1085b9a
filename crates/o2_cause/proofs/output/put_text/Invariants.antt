-- The first bytes of the text were put.
use Rattle.std.proofs.Common.{◌≡◌, ◌-◌, ◌≤◌, length, take}
use Rattle.o2_cause.specs.Taken.{Takes}
use Rattle.o2_cause.proofs.output.put_text.Given as goal

abbrev pub invariant-loop-put : goal.invariant-loop-put
invariant-loop-put g l = record {
  within : l.put ≤ length l.text;
  taken : Takes (g.K.Sink.state l.fn.out) (g.K.Sink.state l.out) (take l.put l.text);
  faults : (g.K.Sink.state l.out).faults ≡ (g.K.Sink.state l.fn.out).faults;
}

abbrev pub decreases-loop-put : goal.decreases-loop-put
decreases-loop-put g l = length l.text - l.put
