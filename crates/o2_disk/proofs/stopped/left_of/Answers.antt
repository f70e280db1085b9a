use Rattle.std.proofs.Common.{◌≡◌, ◌∙◌, ◌+◌, ◌*◌, ◌%◌, arith, ap, length}
use Rattle.std.specs.Prelude.{ℕ}
use Rattle.o2_disk.specs.Calls.{run, start}
use Rattle.o2_disk.specs.Recorded.{some_choice}
use Rattle.o2_disk.proofs.Left.{at_number}
use Rattle.o2_disk.proofs.stopped.left_of.Goals as goal

pub number_of-requires : goal.number_of-requires
number_of-requires c = omega (arith, ap length c.in_ok-choices.ensures, some_choice c.args.base.now c.args.calls.now c.args.s)

pub returns : goal.returns
returns c =
    let long : c.len.result ≡ length c.in_ok-choices.choices.items = omega arith in
    at_number c.args.choice c.args.s c.number_of.result c.in_ok-choices.choices.items (run (start c.args.base.now) c.args.calls.now c.args.s) c.index.result.now c.in_ok-choices.ensures
    (c.number_of.ensures.value ∙ ap (λ (v : ℕ). c.args.choice * (c.args.s + 1) % v) long) (omega arith) c.index.ensures
