-- The bit at hand is right, or it is not.
use Rattle.std.proofs.Common.{◌<◌, sym, ◌∙◌, arith}
use Rattle.o2_judges_alloc.specs.ClusterRows.{is_set_for_owner}
use Rattle.o2_judges_alloc.proofs.Ranges.{test_here, test_fails}
use Rattle.o2_judges_alloc.proofs.cluster_bits.has_bits_of_claims.Goals as goal

pub loop-k-preserved : goal.loop-k-preserved
loop-k-preserved c =
    let low : c.loop-k.k < c.args.row.now.group.bits = omega arith in
    sym (test_here (is_set_for_owner c.args.claims.now c.args.row.now) c.loop-k.k c.args.row.now.group.bits low (sym c.is_right.ensures ∙ c.if-not-is_right.false)) ∙ c.loop-k.invariant

pub returns-then-not-is_right : goal.returns-then-not-is_right
returns-then-not-is_right c =
    let low : c.loop-k.k < c.args.row.now.group.bits = omega arith in
    sym (test_fails (is_set_for_owner c.args.claims.now c.args.row.now) c.loop-k.k c.args.row.now.group.bits low (sym c.is_right.ensures ∙ c.if-not-is_right.true)) ∙ c.loop-k.invariant
