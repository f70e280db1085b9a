-- One block more is laid.
use Rattle.std.proofs.Common.{ℕ, ◌+◌, List, ◌∷◌, length, drop, sym, ◌∙◌, ap, subst, Some}
use Rattle.std.proofs.lemmas.List.{drop_more}
use Rattle.o2_view.proofs.Laid.{AreLaid, one_laid}
use Rattle.o2_view.proofs.plan.overlay.Overlay.lay_fresh.Goals as goal

pub loop-b-preserved : goal.loop-b-preserved
loop-b-preserved c =
    let blocks = c.fresh_blocks-b-items.result.now in
    let place = c.loop-b.b-index in
    one_laid c.loop-b-item.result
    (subst (λ (rest : List (ℕ × List ℕ)). AreLaid c.args.plan.now.fresh rest c.args.self.now c.loop-b.self)
    (drop_more blocks place c.loop-b-item.result c.loop-b-test.true ∙ ap (λ (e : ℕ × List ℕ). e ∷ drop (place + 1) blocks) (sym c.loop-b-item.is)) c.loop-b.invariant)
    (λ size. c.in_ok-put_block.ensures.here size ∙ ap (λ bytes. Some bytes) c.in-Ok.ensures) c.in_ok-put_block.ensures.others (λ size whole long. c.put_block.ensures.whole size whole (ap length c.in-Ok.ensures ∙ long))
