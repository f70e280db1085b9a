-- One block more.
use Rattle.std.proofs.Common.{◌∙◌, ap}
use Rattle.std.proofs.lemmas.List.{take_all}
use Rattle.o2_model.specs.Checks.BackupSuper.{is_backup}
use Rattle.o2_model.specs.Faults.{fails_at}
use Rattle.o2_view.proofs.Shown.{still_shows}
use Rattle.o2_extent.proofs.Views.{only_both}
use Rattle.o2_judges_super.proofs.FailsMore.{one_more_fails}
use Rattle.o2_judges_super.proofs.judge.judge_blocks.Goals as goal

pub loop-b-preserved : goal.loop-b-preserved
loop-b-preserved g c = record {
  told = λ v shows.
      one_more_fails (is_backup v) c.args.blocks.now c.loop-b.b-index c.loop-b.found.items c.add_backup.new.found.items c.loop-b-test.true
      (c.loop-b.invariant.told v shows)
      (c.in_ok-add_backup.ensures.added v (still_shows c.loop-b.invariant.reads shows) (c.as_slice.ensures ∙ c.in_ok-first.ensures.bytes v shows));
  reads = only_both c.loop-b.invariant.reads c.add_backup.ensures.reads;
}

pub returns-clause-told : goal.returns-clause-told
returns-clause-told g c v shows =
    c.loop-b.invariant.told v shows ∙ ap (fails_at (λ b. b) (is_backup v)) (take_all c.loop-b.b-index c.args.blocks.now c.loop-b-test.false)
