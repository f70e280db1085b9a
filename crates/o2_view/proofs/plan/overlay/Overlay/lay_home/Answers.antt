-- One block more is laid, and a number stands among the home blocks once.
use Rattle.std.proofs.Common.{ℕ, List, length, sym, ◌∙◌, ap, subst, Some}
use Rattle.std.specs.Option.{option_or}
use Rattle.o2_view.specs.Plans.{last_of, planned_at}
use Rattle.o2_view.proofs.Laid.{AreLaid, one_laid, laid_kept, last_is_home}
use Rattle.o2_view.proofs.plan.overlay.Overlay.lay_home.Goals as goal

pub returns-in_default-clause-kept : goal.returns-in_default-clause-kept
returns-in_default-clause-kept c size b none = laid_kept c.loop-b.invariant.2 size b (last_is_home c.args.plan.now.home b c.home_blocks-b-items.ensures.rise ∙ none)

pub loop-b-preserved : goal.loop-b-preserved
loop-b-preserved c = (
  tt,
  tt,
  one_laid (c.in-Some.b.now, c.in-Some.block.now) (subst (λ rest. AreLaid c.args.plan.now.home rest c.args.self.now c.loop-b.self) c.in-Some.ensures.steps c.loop-b.invariant.2)
      (λ size. c.in_ok-put_block.ensures.here size ∙ ap (λ bytes. Some bytes) c.in-Ok.ensures) c.in_ok-put_block.ensures.others (λ size whole long. c.put_block.ensures.whole size whole (ap length c.in-Ok.ensures ∙ long)),
)

pub returns-in_err-put_block-clause-kept : goal.returns-in_err-put_block-clause-kept
returns-in_err-put_block-clause-kept c size b none =
    ap (λ p. planned_at size p b) c.in_err-put_block.ensures.err
    ∙ laid_kept c.loop-b.invariant.2 size b (last_is_home c.args.plan.now.home b c.home_blocks-b-items.ensures.rise ∙ none)

pub returns-clause-laid : goal.returns-clause-laid
returns-clause-laid c size b =
    ap (λ (rest : List (ℕ × List ℕ)). option_or (last_of rest b) (planned_at size c.loop-b.self b)) (sym c.in-None.ensures.steps.0)
    ∙ (c.loop-b.invariant.2.same size b ∙ ap (λ last. option_or last (planned_at size c.args.self.now b)) (last_is_home c.args.plan.now.home b c.home_blocks-b-items.ensures.rise))

pub returns-clause-kept : goal.returns-clause-kept
returns-clause-kept c size b none = laid_kept c.loop-b.invariant.2 size b (last_is_home c.args.plan.now.home b c.home_blocks-b-items.ensures.rise ∙ none)
