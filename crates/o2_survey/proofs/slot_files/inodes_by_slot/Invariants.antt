-- The inodes so far are those of the first slots.
use Rattle.std.proofs.Common.{◌≡◌, [], ◌∷◌}
use Rattle.std.specs.Prelude.{flat_map}
use Rattle.std.specs.Option.{option_map_or}
use Rattle.std.specs.List.{range_with_len}
use Rattle.o2_model.specs.declared.system_file.SystemFile.TheVariants.{OfSlot}
use Rattle.o2_model.specs.SystemFiles.{system_inode}
use Rattle.o2_model.specs.Volume.{Volume}
use Rattle.o2_survey.specs.SystemNames.{AreSystemNames}
use Rattle.o2_survey.proofs.slot_files.inodes_by_slot.Given as goal

abbrev pub invariant-loop-slot : goal.invariant-loop-slot
invariant-loop-slot l = (v : Volume) → AreSystemNames v l.names → l.found.items ≡ flat_map (λ slot. option_map_or (λ b. b ∷ []) (system_inode v (OfSlot l.file slot)) []) (range_with_len 0 l.slot)
