-- One run more is laid.
use Rattle.std.proofs.Common.{get_or, sym, subst}
use Rattle.std.proofs.lemmas.List.{drop_more}
use Rattle.o2_view.specs.Plans.{AreWhole}
use Rattle.o2_view.proofs.Laid.{AreCleared, one_cleared}
use Rattle.o2_view.proofs.plan.overlay.Overlay.lay_zeros.Goals as goal

pub returns-in_err-put_zeros-clause-whole : goal.returns-in_err-put_zeros-clause-whole
returns-in_err-put_zeros-clause-whole c size whole = subst (AreWhole size) (sym c.in_err-put_zeros.ensures.err) (c.loop-first.invariant.whole size whole)

pub loop-first-preserved : goal.loop-first-preserved
loop-first-preserved c =
    let runs = c.zero_runs-first-items.result.now in
    one_cleared (get_or runs c.loop-first.first-index (0, 0))
    (subst (λ rest. AreCleared c.args.plan.now.zeros rest c.args.self.now c.loop-first.self) (drop_more runs c.loop-first.first-index (0, 0) c.loop-first-test.true) c.loop-first.invariant)
    c.in_ok-put_zeros.ensures.here c.in_ok-put_zeros.ensures.others c.put_zeros.ensures.whole
