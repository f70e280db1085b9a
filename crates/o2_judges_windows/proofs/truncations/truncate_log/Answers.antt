-- One log more.
use Rattle.std.proofs.Common.{◌++◌, map, take, ◌∙◌, ap, subst}
use Rattle.std.proofs.lemmas.List.{take_all}
use Rattle.o2_model.specs.Claims.{claims_with_windows}
use Rattle.o2_model.specs.Faults.{fails_unless}
use Rattle.o2_model.specs.Orders.{rising}
use Rattle.o2_claims.specs.Owners.{AreOwners}
use Rattle.o2_windows.specs.SlotRows.{IsTruncateLogRow}
use Rattle.o2_windows.specs.declared.log_rows.TruncateLogRow.{TruncateLogRow}
use Rattle.o2_judges_windows.proofs.SlotWalks.{claims_after, faults_after, claims_more, faults_more, each_at}
use Rattle.o2_judges_windows.proofs.LogsTold.{log_step, holds_log, logs_claimed, logs_failing}
use Rattle.o2_judges_windows.proofs.truncations.truncate_log.Goals as goal

pub loop-row-preserved : goal.loop-row-preserved
loop-row-preserved c =
    let rows = c.args.logs.now in
    let i = c.loop-row.row-index in
    let row = c.row-item.result in
    let low = c.loop-row-test.true in
    let at = c.row-item.is in
    record {
      clusters = c.judge_log.ensures.clusters ∙ c.loop-row.invariant.clusters;
      found = λ v earlier all table are.
          let behind = claims_after (log_step v) earlier (map (λ (r : TruncateLogRow). (r.slot, r.inode)) (take i rows)) in
          c.in_ok-judge_log.ensures.found v behind (c.loop-row.invariant.clusters ∙ all) (each_at (IsTruncateLogRow v) rows i row table.each low at) (c.loop-row.invariant.owners v earlier all table are)
          ∙ (ap (λ bs. bs ++ fails_unless row.inode (holds_log v behind row.slot row.inode)) (c.loop-row.invariant.found v earlier all table are)
          ∙ faults_more (log_step v) (holds_log v) (λ (r : TruncateLogRow). (r.slot, r.inode)) rows i row low at earlier);
      owners = λ v earlier all table are.
          let behind = claims_after (log_step v) earlier (map (λ (r : TruncateLogRow). (r.slot, r.inode)) (take i rows)) in
          subst (λ ks. AreOwners ks c.judge_log.new.claims) (claims_more (log_step v) (holds_log v) (λ (r : TruncateLogRow). (r.slot, r.inode)) rows i row low at earlier)
          (c.in_ok-judge_log.ensures.owners v behind (c.loop-row.invariant.clusters ∙ all) (each_at (IsTruncateLogRow v) rows i row table.each low at) (c.loop-row.invariant.owners v earlier all table are));
    }

pub returns-clause-told : goal.returns-clause-told
returns-clause-told c v all table are =
    let whole = ap (map (λ (r : TruncateLogRow). (r.slot, r.inode))) (take_all c.loop-row.row-index c.args.logs.now c.loop-row-test.false) ∙ table.listed in (
      ap rising (c.loop-row.invariant.found v (claims_with_windows v v.geo.slots) all table are ∙ (ap (faults_after (log_step v) (holds_log v) (claims_with_windows v v.geo.slots)) whole ∙ logs_failing v)),
      subst (λ ks. AreOwners ks c.loop-row.claims) (ap (claims_after (log_step v) (claims_with_windows v v.geo.slots)) whole ∙ logs_claimed v) (c.loop-row.invariant.owners v (claims_with_windows v v.geo.slots) all table are),
    )
