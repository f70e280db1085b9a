-- The blocks so far that are no backups.
use Rattle.std.proofs.Common.{◌≡◌, take}
use Rattle.o2_model.specs.Faults.{fails_at}
use Rattle.o2_model.specs.Volume.{Volume}
use Rattle.o2_model.specs.Checks.BackupSuper.{is_backup}
use Rattle.o2_view.specs.Views.{Shows, OnlyReads}
use Rattle.o2_judges_super.proofs.judge.judge_blocks.Given as goal

abbrev pub invariant-loop-b : goal.invariant-loop-b
invariant-loop-b g l = record {
  told : (v : Volume) → Shows l.fn.view l.geo v → l.found.items ≡ fails_at (λ b. b) (is_backup v) (take l.b-index l.blocks);
  reads : OnlyReads l.fn.view l.view;
}
