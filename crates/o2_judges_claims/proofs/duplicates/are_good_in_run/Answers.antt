-- The cluster at hand is free and good, or it is not.
use Rattle.std.proofs.Common.{◌<◌, ◌+◌, sym, ◌∙◌, arith}
use Rattle.o2_judges_claims.specs.Uses.{is_free_and_good}
use Rattle.o2_judges_alloc.proofs.Ranges.{test_here, test_fails}
use Rattle.o2_judges_claims.proofs.duplicates.are_good_in_run.Goals as goal

pub loop-k-preserved : goal.loop-k-preserved
loop-k-preserved c =
    let low : c.loop-k.k < c.args.run.clusters = omega arith in
    sym (test_here (λ k. is_free_and_good c.args.structures.now c.args.uses.now (c.args.run.start + k)) c.loop-k.k c.args.run.clusters low
    (sym c.is_good_at.ensures ∙ c.if-not-is_good_at.false)) ∙ c.loop-k.invariant

pub returns-then-not-is_good_at : goal.returns-then-not-is_good_at
returns-then-not-is_good_at c =
    let low : c.loop-k.k < c.args.run.clusters = omega arith in
    sym (test_fails (λ k. is_free_and_good c.args.structures.now c.args.uses.now (c.args.run.start + k)) c.loop-k.k c.args.run.clusters low
    (sym c.is_good_at.ensures ∙ c.if-not-is_good_at.true)) ∙ c.loop-k.invariant
