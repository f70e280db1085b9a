-- The plan lies under an empty one.
use Rattle.std.proofs.Common.{refl, sym, ◌∙◌, subst, ◌^◌}
use Rattle.o2_view.specs.Plans.{AreWhole}
use Rattle.o2_view.proofs.PlannedBlocks.{whole_none}
use Rattle.o2_view.proofs.Shown.{shows_closed}
use Rattle.o2_view.proofs.view.View.close_plan.Goals as goal

pub invariant_of-self : goal.invariant_of-self
invariant_of-self g c =
    let now = c.args.self.now in
    record { sized = now.sized; whole = now.whole; closed_whole = c.lay.ensures.whole (2 ^ now.block_bits) now.whole now.closed_whole }

pub invariant_of-self-2 : goal.invariant_of-self-2
invariant_of-self-2 g c =
    let now = c.args.self.now in
    record {
      sized = now.sized;
      whole = subst (AreWhole (2 ^ now.block_bits)) (sym c.replace.ensures.after) (subst (AreWhole (2 ^ now.block_bits)) (sym c.new.ensures) (whole_none (2 ^ now.block_bits)));
      closed_whole = c.lay.ensures.whole (2 ^ now.block_bits) now.whole now.closed_whole;
    }

pub returns-clause-shown : goal.returns-clause-shown
returns-clause-shown g c geo v shows = shows_closed refl refl refl (c.replace.ensures.after ∙ c.new.ensures) (c.in_ok-lay.ensures.laid (2 ^ c.args.self.now.block_bits)) shows
