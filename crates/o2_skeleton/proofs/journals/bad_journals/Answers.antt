-- One journal more.
use Rattle.std.proofs.Common.{◌∙◌, ap}
use Rattle.std.proofs.lemmas.List.{take_all}
use Rattle.o2_model.specs.Faults.{fails_at}
use Rattle.o2_model.specs.Checks.Journal.{is_sound_journal}
use Rattle.o2_view.proofs.Shown.{still_shows}
use Rattle.o2_extent.proofs.Views.{only_both}
use Rattle.o2_skeleton.proofs.BadJournals.{one_more_fails}
use Rattle.o2_skeleton.proofs.journals.bad_journals.Goals as goal

pub loop-inode-preserved : goal.loop-inode-preserved
loop-inode-preserved g c = record {
  told = λ v shows read.
      one_more_fails (is_sound_journal v) c.as_slice-inode-items.result.now c.loop-inode.inode-index c.loop-inode.found.items c.add_bad.new.found.items c.loop-inode-test.true
      (c.loop-inode.invariant.told v shows read) (c.in_ok-add_bad.ensures.added v (still_shows c.loop-inode.invariant.reads shows) read);
  reads = only_both c.loop-inode.invariant.reads c.add_bad.ensures.reads;
}

pub returns-clause-told : goal.returns-clause-told
returns-clause-told g c v shows are read =
    c.loop-inode.invariant.told v shows read
    ∙ ap (fails_at (λ b. b) (is_sound_journal v)) (take_all c.loop-inode.inode-index c.as_slice-inode-items.result.now c.loop-inode-test.false
    ∙ (c.as_slice-inode-items.ensures.value ∙ c.in_ok-all.ensures v shows.numbers are))
