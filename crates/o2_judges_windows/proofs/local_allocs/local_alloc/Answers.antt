-- One window more.
use Rattle.std.proofs.Common.{◌++◌, map, take, ◌∙◌, ap, subst}
use Rattle.std.proofs.lemmas.List.{take_all}
use Rattle.o2_model.specs.Claims.{claimed_clusters, claims_with_indexes, with_window_of}
use Rattle.o2_model.specs.Faults.{fails_unless}
use Rattle.o2_model.specs.Orders.{rising}
use Rattle.o2_model.specs.Windows.{is_sound_window}
use Rattle.o2_claims.specs.Owners.{AreOwners}
use Rattle.o2_windows.specs.SlotRows.{IsWindowRow}
use Rattle.o2_windows.specs.declared.window_rows.WindowRow.{WindowRow}
use Rattle.o2_judges_windows.proofs.SlotWalks.{claims_after, faults_after, claims_more, faults_more, each_at}
use Rattle.o2_judges_windows.proofs.WindowsTold.{holds_window, windows_claimed, windows_failing}
use Rattle.o2_judges_windows.proofs.local_allocs.local_alloc.Goals as goal

pub loop-row-preserved : goal.loop-row-preserved
loop-row-preserved c =
    let rows = c.args.windows.now in
    let i = c.loop-row.row-index in
    let row = c.row-item.result in
    let low = c.loop-row-test.true in
    let at = c.row-item.is in
    record {
      clusters = c.judge_window.ensures.clusters ∙ c.loop-row.invariant.clusters;
      found = λ v earlier all table are.
          let behind = claims_after (with_window_of v) earlier (map (λ (r : WindowRow). (r.slot, r.inode)) (take i rows)) in
          c.in_ok-judge_window.ensures.found v behind (c.loop-row.invariant.clusters ∙ all) (each_at (IsWindowRow v) rows i row table.each low at) (c.loop-row.invariant.owners v earlier all table are)
          ∙ (ap (λ bs. bs ++ fails_unless row.inode (is_sound_window v (claimed_clusters behind) row.inode)) (c.loop-row.invariant.found v earlier all table are)
          ∙ faults_more (with_window_of v) (holds_window v) (λ (r : WindowRow). (r.slot, r.inode)) rows i row low at earlier);
      owners = λ v earlier all table are.
          let behind = claims_after (with_window_of v) earlier (map (λ (r : WindowRow). (r.slot, r.inode)) (take i rows)) in
          subst (λ ks. AreOwners ks c.judge_window.new.claims) (claims_more (with_window_of v) (holds_window v) (λ (r : WindowRow). (r.slot, r.inode)) rows i row low at earlier)
          (c.in_ok-judge_window.ensures.owners v behind (c.loop-row.invariant.clusters ∙ all) (each_at (IsWindowRow v) rows i row table.each low at) (c.loop-row.invariant.owners v earlier all table are));
    }

pub returns-clause-told : goal.returns-clause-told
returns-clause-told c v all table are =
    let whole = ap (map (λ (r : WindowRow). (r.slot, r.inode))) (take_all c.loop-row.row-index c.args.windows.now c.loop-row-test.false) ∙ table.listed in (
      ap rising (c.loop-row.invariant.found v (claims_with_indexes v) all table are ∙ (ap (faults_after (with_window_of v) (holds_window v) (claims_with_indexes v)) whole ∙ windows_failing v)),
      subst (λ ks. AreOwners ks c.loop-row.claims) (ap (claims_after (with_window_of v) (claims_with_indexes v)) whole ∙ windows_claimed v) (c.loop-row.invariant.owners v (claims_with_indexes v) all table are),
    )
