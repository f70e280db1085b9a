-- What was taken before a fault, and one piece more.
use Rattle.std.proofs.Common.{arith, ◌∙◌, length-drop, refl}
use Rattle.o2_disk.proofs.Sinks.{err_behind}
use Rattle.o2_cause.proofs.Fronts.{takes_nothing, takes_more, takes_whole, all_is_some, stopped_at}
use Rattle.o2_cause.proofs.output.put_text.Goals as goal

pub loop-put-init : goal.loop-put-init
loop-put-init g c = record {
  within = omega arith;
  taken = takes_nothing _;
  faults = refl;
}

pub returns-in_err-put-clause-some : goal.returns-in_err-put-clause-some
returns-in_err-put-clause-some g c = stopped_at (g.K.Sink.state c.put.new.self) c.loop-put.put c.args.text.now c.loop-put.invariant.taken c.in_err-put.ensures.same

pub loop-put-preserved : goal.loop-put-preserved
loop-put-preserved g c = record {
  within = omega (arith, length-drop c.loop-put.put c.args.text.now, c.in_ok-put.ensures.most, c.loop-put-test.true, c.loop-put.invariant.within);
  taken = takes_more c.loop-put.put c.in_ok-put.field-0 c.args.text.now c.loop-put.invariant.taken c.in_ok-put.ensures.taken;
  faults = c.in_ok-put.ensures.cause.ok ∙ c.loop-put.invariant.faults;
}

pub returns-clause-all : goal.returns-clause-all
returns-clause-all g c = takes_whole c.loop-put.put c.args.text.now (omega (arith, c.loop-put-test.false)) c.loop-put.invariant.taken

pub returns-clause-some : goal.returns-clause-some
returns-clause-some g c = all_is_some (takes_whole c.loop-put.put c.args.text.now (omega (arith, c.loop-put-test.false)) c.loop-put.invariant.taken)

pub returns-in_err-put-clause-stops : goal.returns-in_err-put-clause-stops
returns-in_err-put-clause-stops g c = err_behind c.from_residual.result (g.K.Sink.state c.args.out.now) (g.K.Sink.state c.loop-put.out) (g.K.Sink.state c.put.new.self) c.loop-put.invariant.faults c.in_err-put.ensures.failed
