-- The cluster at hand is new and comes once, or it is not.
use Rattle.std.proofs.Common.{◌<◌, ◌+◌, sym, ◌∙◌, arith}
use Rattle.o2_judges_index.specs.IndexRows.{is_new_once}
use Rattle.o2_judges_alloc.proofs.Ranges.{test_here, test_fails}
use Rattle.o2_judges_index.proofs.own_clusters.are_own_in_run.Goals as goal

pub loop-k-preserved : goal.loop-k-preserved
loop-k-preserved c =
    let low : c.loop-k.k < c.args.run.clusters = omega arith in
    sym (test_here (λ k. is_new_once c.args.claims.now c.args.counts.now (c.args.run.start + k)) c.loop-k.k c.args.run.clusters low
    (sym c.is_own_at.ensures ∙ c.if-not-is_own_at.false)) ∙ c.loop-k.invariant

pub returns-then-not-is_own_at : goal.returns-then-not-is_own_at
returns-then-not-is_own_at c =
    let low : c.loop-k.k < c.args.run.clusters = omega arith in
    sym (test_fails (λ k. is_new_once c.args.claims.now c.args.counts.now (c.args.run.start + k)) c.loop-k.k c.args.run.clusters low
    (sym c.is_own_at.ensures ∙ c.if-not-is_own_at.true)) ∙ c.loop-k.invariant
