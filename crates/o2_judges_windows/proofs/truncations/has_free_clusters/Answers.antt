-- Its clusters lie within the volume, or they do not.
use Rattle.std.proofs.Common.{sym, ◌∙◌, ap, arith}
use Rattle.std.specs.List.{list_any}
use Rattle.std.specs.Prelude.{not}
use Rattle.o2_claims.specs.Owners.{has_owner}
use Rattle.o2_view.specs.declared.run.Run.{Run}
use Rattle.o2_judges_windows.proofs.LogsTold.{beyond_fails, too_many_fail, free_decides, same_run}
use Rattle.o2_judges_windows.proofs.truncations.has_free_clusters.Goals.{then-all-start-via-then-all-start, then-all-start-via-else-all-start+then-all-start-2}
use Rattle.o2_judges_windows.proofs.truncations.has_free_clusters.Goals as goal

pub returns-then-all-start-clause-holds : goal.returns-then-all-start-clause-holds
returns-then-all-start-clause-holds c v earlier r all is are some =
    let start = ap (λ (run : Run). run.start) is in
    let count = ap (λ (run : Run). run.clusters) is in
    elim c.then-all-start.branch [
      | then-all-start-via-then-all-start w ↦ sym (beyond_fails v earlier r some (omega (arith, all, start, c.clusters-all.ensures, w.if-all-start.true)))
      | then-all-start-via-else-all-start+then-all-start-2 w ↦ sym (too_many_fail v earlier r some (omega (arith, all, start, count, c.clusters-all.ensures, w.if-all-start.false, w.if-all-start-2.true)))
    ]

pub returns-clause-holds : goal.returns-clause-holds
returns-clause-holds c v earlier r all is are some =
    let start = ap (λ (run : Run). run.start) is in
    let count = ap (λ (run : Run). run.clusters) is in
    ap not c.has_owner_between.ensures
    ∙ (ap (λ cs. not (list_any (has_owner c.args.claims.now) cs)) (same_run c.args.run r is)
    ∙ free_decides v earlier r c.args.claims.now all are some (omega (arith, all, start, c.clusters-all.ensures, c.if-all-start.false)) (omega (arith, all, start, count, c.clusters-all.ensures, c.if-all-start.false, c.if-all-start-2.false)))
