-- The rows so far are those of the first allocators.
use Rattle.std.proofs.Common.{◌++◌}
use Rattle.std.specs.Prelude.{flat_map}
use Rattle.std.specs.List.{range_with_len}
use Rattle.o2_model.specs.Volume.{Volume}
use Rattle.o2_model.specs.Allocators.{slot_allocators}
use Rattle.o2_view.specs.Views.{Shows, OnlyReads}
use Rattle.o2_survey.specs.SystemNames.{AreSystemNames}
use Rattle.o2_survey.specs.SystemInodes.{AreRead}
use Rattle.o2_survey.specs.AllocatorRows.{AreAllocatorRows, global_allocators}
use Rattle.o2_survey.proofs.allocator_table.allocators.Given as goal

abbrev pub invariant-loop-slot : goal.invariant-loop-slot
invariant-loop-slot g l = record {
  rows : (v : Volume) → Shows l.fn.view l.geo v → AreRead v l.inodes → AreSystemNames v l.names → AreAllocatorRows v (global_allocators v ++ flat_map (slot_allocators v) (range_with_len 0 l.slot)) l.rows.items;
  reads : OnlyReads l.fn.view l.view;
}
