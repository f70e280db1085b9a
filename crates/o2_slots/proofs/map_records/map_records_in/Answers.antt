-- EXTENT, and then the records, decide.
use Rattle.std.proofs.Common.{◌≡◌, inl, false, true, refl, sym, ◌∙◌, subst}
use Rattle.o2_model.specs.Checks.SlotMap.{is_sound_slot_map}
use Rattle.o2_model.proofs.Faults.{fails_nowhere}
use Rattle.o2_view.specs.OwnChecks.{ReadFailsOf}
use Rattle.o2_view.specs.Views.{ShowsBytes}
use Rattle.o2_slots.specs.SlotChecks.{slot_map_checks}
use Rattle.o2_slots.proofs.Judged.{fails_there, by_records, map_fails}
use Rattle.o2_slots.proofs.map_records.map_records_in.Goals as goal

pub returns-in-Err-clause-fails : goal.returns-in-Err-clause-fails
returns-in-Err-clause-fails g c =
    subst (ReadFailsOf (ShowsBytes c.args.view.now c.args.geo.now c.args.inode c.args.bytes.now) c.args.view.now c.records_in.new.view (slot_map_checks c.args.inode)) (sym c.fault_of_map.ensures)
    (map_fails c.args.view.now c.records_in.new.view c.args.geo.now c.args.inode c.args.bytes.now c.in-Err.fault c.in-Err.ensures.fails)

pub returns-then-not-have_room-clause-fails : goal.returns-then-not-have_room-clause-fails
returns-then-not-have_room-clause-fails g c = record {
  own = inl refl;
  first = λ v seen.
      let told = c.in-Ok.ensures.told v seen in
      let sound : is_sound_slot_map v c.args.inode ≡ false = by_records v c.args.inode c.as_slice.result.now told.0.0 (c.as_slice.ensures ∙ told.1) ∙ (sym (c.have_room.ensures v seen.shows.numbers) ∙ c.if-not-have_room.true) in
      inl (refl, fails_there c.args.inode (is_sound_slot_map v c.args.inode) sound);
}

pub returns-clause-told : goal.returns-clause-told
returns-clause-told g c v seen =
    let told = c.in-Ok.ensures.told v seen in
    let sound : is_sound_slot_map v c.args.inode ≡ true = by_records v c.args.inode c.as_slice.result.now told.0.0 (c.as_slice.ensures ∙ told.1) ∙ (sym (c.have_room.ensures v seen.shows.numbers) ∙ c.if-not-have_room.false) in
    ((fails_nowhere c.args.inode (is_sound_slot_map v c.args.inode) sound, tt), told.1)
