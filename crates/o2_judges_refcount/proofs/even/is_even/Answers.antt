-- The cluster at hand is referred to so often, or it is not.
use Rattle.std.proofs.Common.{◌≡◌, ℕ, ◌<◌, ◌+◌, ◌==◌, Bool, sym, ◌∙◌, ap, arith}
use Rattle.o2_ondisk.specs.declared.refcount_rec.RefcountRec.{RefcountRec}
use Rattle.o2_judges_refcount.specs.References.{times_of}
use Rattle.o2_judges_refcount.specs.declared.sharing.References.{References}
use Rattle.o2_judges_refcount.proofs.Ranges.{test_here, test_fails}
use Rattle.o2_judges_refcount.proofs.even.is_even.Goals as goal

-- what the test of the cluster at hand tells
told : (r : References) (root : ℕ) (x : RefcountRec) (k wide times : ℕ) (result told : Bool) → wide ≡ k → times ≡ times_of r root x.cpos
    → result ≡ (times_of r root (x.cpos + wide) == times) → result ≡ told → (times_of r root (x.cpos + k) == times_of r root x.cpos) ≡ told
told r root x k wide times result is same first now test =
    ap (λ a. times_of r root (x.cpos + a) == times_of r root x.cpos) (sym same) ∙ (ap (λ n. times_of r root (x.cpos + wide) == n) (sym first) ∙ (sym now ∙ test))

pub loop-k-preserved : goal.loop-k-preserved
loop-k-preserved c =
    let r = c.args.references.now in
    let x = c.args.refcount.now in
    let low : c.loop-k.k < c.args.refcount.now.clusters = omega arith in
    let is = told r c.args.root x c.loop-k.k c.from.result c.times-times.result _ _ c.from.ensures c.times-times.ensures c.has_times.ensures c.if-not-has_times.false in
    sym (test_here (λ a. times_of r c.args.root a == times_of r c.args.root x.cpos) x.cpos c.loop-k.k x.clusters low is) ∙ c.loop-k.invariant

pub returns-then-not-has_times : goal.returns-then-not-has_times
returns-then-not-has_times c =
    let r = c.args.references.now in
    let x = c.args.refcount.now in
    let low : c.loop-k.k < c.args.refcount.now.clusters = omega arith in
    let is = told r c.args.root x c.loop-k.k c.from.result c.times-times.result _ _ c.from.ensures c.times-times.ensures c.has_times.ensures c.if-not-has_times.true in
    sym (test_fails (λ a. times_of r c.args.root a == times_of r c.args.root x.cpos) x.cpos c.loop-k.k x.clusters low is) ∙ c.loop-k.invariant
