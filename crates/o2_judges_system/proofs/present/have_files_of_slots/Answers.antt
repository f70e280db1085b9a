-- A slot without one of its files, or one more with all.
use Rattle.std.proofs.Common.{sym, ◌∙◌}
use Rattle.o2_model.specs.SystemFiles.{files_of_slot}
use Rattle.o2_model.specs.Checks.Sysfile.{is_there}
use Rattle.o2_judges_system.proofs.Slots.{holds_more, fails_in}
use Rattle.o2_judges_system.proofs.present.have_files_of_slots.Goals as goal

pub returns-then-not-has_files_of_slot : goal.returns-then-not-has_files_of_slot
returns-then-not-has_files_of_slot c v are =
    sym (fails_in (is_there v) files_of_slot c.loop-slot.slot (sym (c.has_files_of_slot.ensures v are) ∙ c.if-not-has_files_of_slot.true) c.args.slots c.loop-slot-test.true)

pub loop-slot-preserved : goal.loop-slot-preserved
loop-slot-preserved c v are = holds_more (is_there v) files_of_slot c.loop-slot.slot (c.loop-slot.invariant v are) (sym (c.has_files_of_slot.ensures v are) ∙ c.if-not-has_files_of_slot.false)
