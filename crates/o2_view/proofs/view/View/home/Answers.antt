-- The block has its bytes in the plan.
use Rattle.std.proofs.Common.{refl, ◌∙◌, ap, length, ◌^◌, Some}
use Rattle.o2_view.specs.Plans.{with_home}
use Rattle.o2_view.proofs.Shown.{shows_home}
use Rattle.o2_view.proofs.view.View.home.Goals as goal

pub invariant_of-self-clause-whole : goal.invariant_of-self-clause-whole
invariant_of-self-clause-whole g c = c.put_home.ensures.whole (2 ^ c.args.self.now.block_bits) c.args.self.now.whole (ap length c.in-Ok.ensures ∙ c.requires.whole)

pub returns-clause-shown : goal.returns-clause-shown
returns-clause-shown g c geo v shows =
    shows_home (record { bits = refl; blocks = refl; disk = refl; closed = λ b. refl }) c.args.b c.args.bytes.now
    (c.in_ok-put_home.ensures.ok ∙ ap (with_home c.args.self.now.plan c.args.b) c.in-Ok.ensures) (c.in_ok-put_home.ensures.here ∙ ap (λ x. Some x) c.in-Ok.ensures) c.in_ok-put_home.ensures.others shows
