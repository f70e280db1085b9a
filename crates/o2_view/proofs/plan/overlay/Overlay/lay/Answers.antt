-- Zeros, then fresh blocks, then home blocks.
use Rattle.std.proofs.Common.{◌∙◌}
use Rattle.o2_view.specs.Plans.{planned_at}
use Rattle.o2_view.proofs.Laid.{all_laid, none_of_it}
use Rattle.o2_view.proofs.plan.overlay.Overlay.lay.Goals as goal

pub returns-clause-laid : goal.returns-clause-laid
returns-clause-laid c size b =
    all_laid size c.args.plan.now b (planned_at size c.args.self.now b) (planned_at size c.lay_zeros.new.self b) (planned_at size c.lay_fresh.new.self b) (planned_at size c.lay_home.new.self b)
    (c.in_ok-lay_zeros.ensures.laid size b) (c.in_ok-lay_fresh.ensures.laid size b) (c.in_ok-lay_home.ensures.laid size b)

pub returns-in_err-lay_zeros-clause-kept : goal.returns-in_err-lay_zeros-clause-kept
returns-in_err-lay_zeros-clause-kept c size b none = let parts = none_of_it size c.args.plan.now b none in c.lay_zeros.ensures.kept size b parts.2

pub returns-in_err-lay_zeros-clause-whole : goal.returns-in_err-lay_zeros-clause-whole
returns-in_err-lay_zeros-clause-whole c size plan whole = c.lay_zeros.ensures.whole size whole

pub returns-in_err-lay_fresh-clause-kept : goal.returns-in_err-lay_fresh-clause-kept
returns-in_err-lay_fresh-clause-kept c size b none = let parts = none_of_it size c.args.plan.now b none in c.lay_fresh.ensures.kept size b parts.1 ∙ c.lay_zeros.ensures.kept size b parts.2

pub returns-in_err-lay_fresh-clause-whole : goal.returns-in_err-lay_fresh-clause-whole
returns-in_err-lay_fresh-clause-whole c size plan whole = c.lay_fresh.ensures.whole size plan (c.lay_zeros.ensures.whole size whole)

pub returns-in_err-lay_home-clause-kept : goal.returns-in_err-lay_home-clause-kept
returns-in_err-lay_home-clause-kept c size b none =
    let parts = none_of_it size c.args.plan.now b none in
    c.lay_home.ensures.kept size b parts.0 ∙ (c.lay_fresh.ensures.kept size b parts.1 ∙ c.lay_zeros.ensures.kept size b parts.2)

pub returns-in_err-lay_home-clause-whole : goal.returns-in_err-lay_home-clause-whole
returns-in_err-lay_home-clause-whole c size plan whole = c.lay_home.ensures.whole size plan (c.lay_fresh.ensures.whole size plan (c.lay_zeros.ensures.whole size whole))

pub returns-clause-kept : goal.returns-clause-kept
returns-clause-kept c size b none =
    let parts = none_of_it size c.args.plan.now b none in
    c.lay_home.ensures.kept size b parts.0 ∙ (c.lay_fresh.ensures.kept size b parts.1 ∙ c.lay_zeros.ensures.kept size b parts.2)

pub returns-clause-whole : goal.returns-clause-whole
returns-clause-whole c size plan whole = c.lay_home.ensures.whole size plan (c.lay_fresh.ensures.whole size plan (c.lay_zeros.ensures.whole size whole))
