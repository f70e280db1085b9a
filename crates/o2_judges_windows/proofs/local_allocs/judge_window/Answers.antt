-- A window that holds claims its clusters.
use Rattle.std.proofs.Common.{◌++◌, sym, ◌∙◌, ap, subst}
use Rattle.std.proofs.lemmas.Result.{on_ok_weaker}
use Rattle.o2_model.specs.declared.claim.Owner.TheVariants as owner
use Rattle.o2_model.specs.Claims.{claims_by}
use Rattle.o2_claims.specs.Owners.{AreOwners}
use Rattle.o2_judges_windows.proofs.WindowsTold.{window_claims}
use Rattle.o2_judges_windows.proofs.local_allocs.judge_window.Goals as goal

pub returns-clause-owners : goal.returns-clause-owners
returns-clause-owners c = on_ok_weaker c.claim_all.result
    (λ claimed v earlier all is are.
    subst (λ ks. AreOwners ks c.claim_all.new.claims)
    (ap (λ cs. earlier ++ claims_by (owner.LocalAlloc c.args.row.now.slot) cs) c.as_slice.ensures
    ∙ window_claims v c.args.claims.now earlier c.args.row.now all is are (sym (c.is_sound.ensures v earlier all is are) ∙ c.if-not-is_sound.false))
    (claimed earlier are))
    c.claim_all.ensures.owners
