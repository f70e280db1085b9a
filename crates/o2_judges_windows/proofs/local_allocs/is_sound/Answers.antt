-- The row and the owners of its clusters decide.
use Rattle.std.proofs.Common.{◌&&◌, not, sym, ◌∙◌, ap}
use Rattle.std.specs.List.{list_any}
use Rattle.o2_claims.specs.Owners.{has_owner}
use Rattle.o2_judges_windows.proofs.WindowsTold.{window_judged}
use Rattle.o2_judges_windows.proofs.local_allocs.is_sound.Goals as goal

pub returns-then-row : goal.returns-then-row
returns-then-row c v earlier all is are =
    ap not c.is_any_owned.ensures
    ∙ (ap (λ cs. not (list_any (has_owner c.args.claims.now) cs)) c.as_slice.ensures
    ∙ (sym (ap (λ t. t && not (list_any (has_owner c.args.claims.now) c.args.row.now.clusters)) c.if-row.true)
    ∙ window_judged v c.args.claims.now earlier c.args.row.now all is are))

pub returns-else-row : goal.returns-else-row
returns-else-row c v earlier all is are =
    c.if-row.false
    ∙ (sym (ap (λ t. t && not (list_any (has_owner c.args.claims.now) c.args.row.now.clusters)) c.if-row.false)
    ∙ window_judged v c.args.claims.now earlier c.args.row.now all is are)
