-- The lines of the first slots.
use Rattle.std.proofs.Common.{◌≡◌, map}
use Rattle.std.specs.List.{range_with_len}
use Rattle.o2_model.specs.AfterReplay.{journal_length}
use Rattle.o2_model.specs.Volume.{Volume}
use Rattle.o2_skeleton.specs.SkeletonTables.{IsSkeleton}
use Rattle.o2_view.specs.Views.{Shows, OnlyReads}
use Rattle.o2_debug.specs.VolumeLines.{journal_line}
use Rattle.o2_debug.proofs.volume.journal_lines.Given as goal

abbrev pub invariant-loop-slot : goal.invariant-loop-slot
invariant-loop-slot g l = record {
  lines : (v : Volume) → Shows l.fn.view l.geo v → IsSkeleton v l.skeleton → l.lines.items ≡ map (λ slot. journal_line slot (journal_length v slot)) (range_with_len 0 l.slot);
  reads : OnlyReads l.fn.view l.view;
}
