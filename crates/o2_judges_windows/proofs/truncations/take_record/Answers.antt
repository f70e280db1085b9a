-- A record is void, or it does not hold, or its clusters are claimed.
use Rattle.std.proofs.Common.{◌≡◌, ◌≢◌, true, ◌++◌, sym, ◌∙◌, ap, subst}
use Rattle.o2_model.specs.declared.claim.Owner.TheVariants as owner
use Rattle.o2_model.specs.Claims.{claims_by, claimed_clusters}
use Rattle.o2_model.specs.TruncateLogs.{is_sound_truncation}
use Rattle.o2_claims.specs.Owners.{AreOwners}
use Rattle.o2_view.specs.declared.run.Run.{Run}
use Rattle.o2_judges_windows.proofs.LogsTold.{void_holds, void_claims, record_claims, same_run}
use Rattle.o2_judges_windows.proofs.truncations.take_record.Goals as goal

pub returns-then-start-eq0-clause-holds : goal.returns-then-start-eq0-clause-holds
returns-then-start-eq0-clause-holds c v earlier r all is are = sym (void_holds v earlier r (sym (ap (λ (run : Run). run.start) is) ∙ c.if-start-eq0.true))

pub returns-then-start-eq0-clause-owners : goal.returns-then-start-eq0-clause-owners
returns-then-start-eq0-clause-owners c v earlier r all is are =
    subst (λ ks. AreOwners ks c.args.claims.now) (void_claims v earlier r c.args.slot (sym (ap (λ (run : Run). run.start) is) ∙ c.if-start-eq0.true)) are

pub returns-clause-owners : goal.returns-clause-owners
returns-clause-owners c v earlier r all is are =
    let start = ap (λ (run : Run). run.start) is in
    let some : r.start ≢ 0 = λ void. c.if-start-eq0.false (start ∙ void) in
    let sound : is_sound_truncation v (claimed_clusters earlier) r ≡ true = sym (c.has_free_clusters.ensures.holds v earlier r all is are some) ∙ c.if-not-has_free_clusters.false in
    subst (λ ks. AreOwners ks c.claim_below.new.claims)
    (ap (λ cs. earlier ++ claims_by (owner.TruncateLog c.args.slot) cs) (same_run c.args.run r is) ∙ record_claims v earlier r c.args.slot some sound)
    (c.in_ok-claim_below.ensures.owners earlier are)
