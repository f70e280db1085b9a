-- The rows so far are those of the first slots.
use Rattle.std.specs.Prelude.{flat_map}
use Rattle.std.specs.List.{range_with_len}
use Rattle.o2_model.specs.declared.system_file.SlotFile.TheVariants.{TruncateLog}
use Rattle.o2_model.specs.Volume.{Volume}
use Rattle.o2_view.specs.Views.{Shows, OnlyReads}
use Rattle.o2_survey.specs.SystemNames.{AreSystemNames}
use Rattle.o2_windows.specs.SlotRows.{AreTruncateLogRows, inode_of_slot}
use Rattle.o2_windows.proofs.log_rows.truncate_logs.Given as goal

abbrev pub invariant-loop-slot : goal.invariant-loop-slot
invariant-loop-slot g l = record {
  rows : (v : Volume) → Shows l.fn.view l.geo v → AreSystemNames v l.names → AreTruncateLogRows v (flat_map (inode_of_slot v TruncateLog) (range_with_len 0 l.slot)) l.rows.items;
  reads : OnlyReads l.fn.view l.view;
}
