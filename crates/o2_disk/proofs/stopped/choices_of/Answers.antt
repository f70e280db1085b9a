use Rattle.std.proofs.Common.{take, arith, ap, length}
use Rattle.o2_disk.specs.Recorded.{some_choice}
use Rattle.o2_disk.proofs.Left.{choices_more}
use Rattle.o2_disk.proofs.stopped.choices_of.Goals as goal

pub add_choice-requires : goal.add_choice-requires
add_choice-requires c = omega (arith, ap length c.loop-call.invariant, some_choice c.args.base.now (take c.loop-call.call-index c.args.calls.now) c.args.s)

pub loop-call-preserved : goal.loop-call-preserved
loop-call-preserved c = choices_more c.args.base.now c.args.calls.now c.loop-call.call-index c.args.s c.call-item.result c.loop-call.choices.items c.add_choice.new.choices.items c.loop-call.invariant c.loop-call-test.true c.call-item.is c.in_ok-add_choice.ensures
