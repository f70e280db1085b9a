-- A record of the tree has the cluster at hand, or none has.
use Rattle.std.proofs.Common.{◌≡◌, ℕ, ◌<◌, ◌+◌, Bool, sym, ◌∙◌, ap, arith}
use Rattle.o2_judges_refcount.specs.CoverRows.{has_cluster}
use Rattle.o2_judges_refcount.specs.declared.covers.Covers.{Covers}
use Rattle.o2_judges_refcount.proofs.Ranges.{test_here, test_fails}
use Rattle.o2_judges_refcount.proofs.missing.has_run.Goals as goal

-- what the test of the cluster at hand tells
told : (covers : Covers) (root start k wide : ℕ) (result told : Bool) → wide ≡ k → result ≡ has_cluster covers root (start + wide) → result ≡ told
    → has_cluster covers root (start + k) ≡ told
told covers root start k wide result is same now test = ap (λ a. has_cluster covers root (start + a)) (sym same) ∙ (sym now ∙ test)

pub loop-k-preserved : goal.loop-k-preserved
loop-k-preserved c =
    let low : c.loop-k.k < c.args.run.clusters = omega arith in
    let is = told c.args.covers.now c.args.root c.from-start.result c.loop-k.k c.from.result _ _ c.from.ensures c.has_cluster.ensures c.if-not-has_cluster.false in
    sym (test_here (has_cluster c.args.covers.now c.args.root) c.from-start.result c.loop-k.k c.args.run.clusters low is) ∙ c.loop-k.invariant

pub returns-then-not-has_cluster : goal.returns-then-not-has_cluster
returns-then-not-has_cluster c =
    let low : c.loop-k.k < c.args.run.clusters = omega arith in
    let is = told c.args.covers.now c.args.root c.from-start.result c.loop-k.k c.from.result _ _ c.from.ensures c.has_cluster.ensures c.if-not-has_cluster.true in
    sym (test_fails (has_cluster c.args.covers.now c.args.root) c.from-start.result c.loop-k.k c.args.run.clusters low is) ∙ c.loop-k.invariant
