-- The journals so far are those of the first at which the check fails.
use Rattle.std.proofs.Common.{◌≡◌, take}
use Rattle.o2_model.specs.Faults.{fails_at}
use Rattle.o2_model.specs.Volume.{Volume}
use Rattle.o2_model.specs.Checks.Journal.{is_sound_journal}
use Rattle.o2_view.specs.Views.{Shows, OnlyReads}
use Rattle.o2_survey.specs.SystemInodes.{AreRead}
use Rattle.o2_skeleton.proofs.journals.bad_journals.Given as goal

abbrev pub invariant-loop-inode : goal.invariant-loop-inode
invariant-loop-inode g l = record {
  told : (v : Volume) → Shows l.fn.view l.geo v → AreRead v l.inodes → l.found.items ≡ fails_at (λ b. b) (is_sound_journal v) (take l.inode-index l.inode-items);
  reads : OnlyReads l.fn.view l.view;
}
