-- One slot more.
use Rattle.std.proofs.Common.{ap, arith}
use Rattle.o2_view.proofs.Shown.{still_shows}
use Rattle.o2_extent.proofs.Views.{only_both}
use Rattle.o2_survey.proofs.Rows.{one_slot_told, all_told}
use Rattle.o2_survey.proofs.allocator_table.allocators.Goals as goal

pub loop-slot-preserved : goal.loop-slot-preserved
loop-slot-preserved g c = record {
  rows = λ v shows read are.
      one_slot_told v c.loop-slot.slot c.add_rows_of_slot.new.rows.items
      (c.in_ok-add_rows_of_slot.ensures.added v (still_shows c.loop-slot.invariant.reads shows) read are _ (c.loop-slot.invariant.rows v shows read are));
  reads = only_both c.loop-slot.invariant.reads c.add_rows_of_slot.ensures.reads;
}

pub returns-clause-told : goal.returns-clause-told
returns-clause-told g c v shows read are =
    all_told v c.loop-slot.slot c.loop-slot.rows.items c.from.result (c.loop-slot.invariant.rows v shows read are) (omega (arith, ap (λ geo. geo.slots) shows.numbers)) c.from.ensures
