-- The files of the slots so far are there.
use Rattle.std.proofs.Common.{◌≡◌, true}
use Rattle.std.specs.Prelude.{flat_map}
use Rattle.std.specs.List.{list_all, range_with_len}
use Rattle.o2_model.specs.Volume.{Volume}
use Rattle.o2_model.specs.SystemFiles.{files_of_slot}
use Rattle.o2_model.specs.Checks.Sysfile.{is_there}
use Rattle.o2_survey.specs.SystemNames.{AreSystemNames}
use Rattle.o2_judges_system.proofs.present.have_files_of_slots.Given as goal

abbrev pub invariant-loop-slot : goal.invariant-loop-slot
invariant-loop-slot l = (v : Volume) → AreSystemNames v l.names → list_all (is_there v) (flat_map files_of_slot (range_with_len 0 l.slot)) ≡ true
