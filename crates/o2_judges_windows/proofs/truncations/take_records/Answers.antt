-- One record more.
use Rattle.std.proofs.Common.{◌≡◌, ◌&&◌, List, take, fold, sym, ◌∙◌, ap, subst}
use Rattle.o2_ondisk.specs.declared.truncate_rec.TruncateRec.{TruncateRec}
use Rattle.o2_model.specs.Checks.TruncateLog.{are_sound_truncations}
use Rattle.o2_model.specs.Claims.{with_truncation}
use Rattle.o2_claims.specs.Owners.{AreOwners}
use Rattle.o2_judges_windows.proofs.LogsTold.{record_is, claims_with_next, hold_with_next, all_records}
use Rattle.o2_judges_windows.proofs.truncations.take_records.Goals.{then-hold, else-hold}
use Rattle.o2_judges_windows.proofs.truncations.take_records.Goals as goal

pub loop-run-preserved : goal.loop-run-preserved
loop-run-preserved c =
    let records = c.args.records.now in
    let i = c.loop-run.run-index in
    let low = c.loop-run-test.true in
    let both : c.if-hold.hold ≡ (c.loop-run.hold && c.in_ok-holds.holds) = elim c.if-hold.branch [
      | then-hold w ↦ w.hold-is ∙ sym (ap (λ t. t && c.in_ok-holds.holds) w.if-hold.true)
      | else-hold w ↦ w.hold-is ∙ (w.if-hold.false ∙ sym (ap (λ t. t && c.in_ok-holds.holds) w.if-hold.false))
    ] in
    record {
      clusters = c.take_record.ensures.clusters ∙ c.loop-run.invariant.clusters;
      hold = λ v earlier rs all is are.
          both ∙ hold_with_next v c.args.slot earlier records rs i is low c.loop-run.hold c.in_ok-holds.holds (c.loop-run.invariant.hold v earlier rs all is are)
          (c.in_ok-holds.ensures.holds v (fold (with_truncation v c.args.slot) earlier (take i rs)) _ (c.loop-run.invariant.clusters ∙ all) (record_is v c.args.slot earlier records rs i is low _) (c.loop-run.invariant.owners v earlier rs all is are));
      owners = λ v earlier rs all is are.
          subst (λ ks. AreOwners ks c.take_record.new.claims) (sym (claims_with_next v c.args.slot earlier records rs i is low))
          (c.in_ok-holds.ensures.owners v (fold (with_truncation v c.args.slot) earlier (take i rs)) _ (c.loop-run.invariant.clusters ∙ all) (record_is v c.args.slot earlier records rs i is low _) (c.loop-run.invariant.owners v earlier rs all is are));
    }

pub returns-clause-hold : goal.returns-clause-hold
returns-clause-hold c v earlier rs all is are =
    c.loop-run.invariant.hold v earlier rs all is are ∙ ap (are_sound_truncations v c.args.slot earlier) (all_records c.args.records.now rs c.loop-run.run-index is c.loop-run-test.false)

pub returns-clause-owners : goal.returns-clause-owners
returns-clause-owners c v earlier rs all is are =
    subst (λ (ts : List TruncateRec). AreOwners (fold (with_truncation v c.args.slot) earlier ts) c.loop-run.claims) (all_records c.args.records.now rs c.loop-run.run-index is c.loop-run-test.false)
    (c.loop-run.invariant.owners v earlier rs all is are)
