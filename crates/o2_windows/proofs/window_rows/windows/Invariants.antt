-- The rows so far are those of the first slots.
use Rattle.std.specs.Prelude.{flat_map}
use Rattle.std.specs.List.{range_with_len}
use Rattle.o2_model.specs.declared.system_file.SlotFile.TheVariants.{LocalAlloc}
use Rattle.o2_model.specs.Volume.{Volume}
use Rattle.o2_view.specs.Views.{Shows, OnlyReads}
use Rattle.o2_survey.specs.SystemNames.{AreSystemNames}
use Rattle.o2_survey.specs.SystemInodes.{AreRead}
use Rattle.o2_windows.specs.SlotRows.{AreWindowRows, inode_of_slot}
use Rattle.o2_windows.proofs.window_rows.windows.Given as goal

abbrev pub invariant-loop-slot : goal.invariant-loop-slot
invariant-loop-slot g l = record {
  rows : (v : Volume) → Shows l.fn.view l.geo v → AreSystemNames v l.names → AreRead v l.inodes → AreWindowRows v (flat_map (inode_of_slot v LocalAlloc) (range_with_len 0 l.slot)) l.rows.items;
  reads : OnlyReads l.fn.view l.view;
}
