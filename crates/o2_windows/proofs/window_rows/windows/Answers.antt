-- One slot more.
use Rattle.std.proofs.Common.{ap, subst, arith}
use Rattle.o2_model.specs.declared.system_file.SlotFile.TheVariants.{LocalAlloc}
use Rattle.o2_view.proofs.Shown.{still_shows}
use Rattle.o2_extent.proofs.Views.{only_both}
use Rattle.o2_windows.specs.SlotRows.{AreWindowRows}
use Rattle.o2_windows.proofs.SlotLists.{next_slot, all_slots}
use Rattle.o2_windows.proofs.window_rows.windows.Goals as goal

pub loop-slot-preserved : goal.loop-slot-preserved
loop-slot-preserved g c = record {
  rows = λ v shows are read.
      subst (λ inodes. AreWindowRows v inodes c.add_window.new.rows.items) (next_slot v LocalAlloc c.loop-slot.slot)
      (c.in_ok-add_window.ensures.added v (still_shows c.loop-slot.invariant.reads shows) are read _ (c.loop-slot.invariant.rows v shows are read));
  reads = only_both c.loop-slot.invariant.reads c.add_window.ensures.reads;
}

pub returns-clause-told : goal.returns-clause-told
returns-clause-told g c v shows are read =
    subst (λ inodes. AreWindowRows v inodes c.loop-slot.rows.items) (all_slots v LocalAlloc c.loop-slot.slot (omega (arith, ap (λ geo. geo.slots) shows.numbers)))
    (c.loop-slot.invariant.rows v shows are read)
