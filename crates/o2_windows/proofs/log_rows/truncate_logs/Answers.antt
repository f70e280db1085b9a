-- One slot more.
use Rattle.std.proofs.Common.{ap, subst, arith}
use Rattle.o2_model.specs.declared.system_file.SlotFile.TheVariants.{TruncateLog}
use Rattle.o2_view.proofs.Shown.{still_shows}
use Rattle.o2_extent.proofs.Views.{only_both}
use Rattle.o2_windows.specs.SlotRows.{AreTruncateLogRows}
use Rattle.o2_windows.proofs.SlotLists.{next_slot, all_slots}
use Rattle.o2_windows.proofs.log_rows.truncate_logs.Goals as goal

pub loop-slot-preserved : goal.loop-slot-preserved
loop-slot-preserved g c = record {
  rows = λ v shows are.
      subst (λ inodes. AreTruncateLogRows v inodes c.add_log.new.rows.items) (next_slot v TruncateLog c.loop-slot.slot)
      (c.in_ok-add_log.ensures.added v (still_shows c.loop-slot.invariant.reads shows) are _ (c.loop-slot.invariant.rows v shows are));
  reads = only_both c.loop-slot.invariant.reads c.add_log.ensures.reads;
}

pub returns-clause-told : goal.returns-clause-told
returns-clause-told g c v shows are =
    subst (λ inodes. AreTruncateLogRows v inodes c.loop-slot.rows.items) (all_slots v TruncateLog c.loop-slot.slot (omega (arith, ap (λ geo. geo.slots) shows.numbers)))
    (c.loop-slot.invariant.rows v shows are)
