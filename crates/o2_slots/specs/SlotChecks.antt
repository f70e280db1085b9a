-- What the readers of a slot's parts judge, each of its own inode alone.
use Rattle.std.specs.Prelude.{ℕ, List, [], ◌∷◌}
use Rattle.o2_model.specs.declared.check.Check.TheVariants as check
use Rattle.o2_model.specs.Faults.{fails_unless}
use Rattle.o2_model.specs.TruncateLogs.{is_sound_truncate_header}
use Rattle.o2_model.specs.Checks.SlotMap.{is_sound_slot_map}
use Rattle.o2_view.specs.OwnChecks.{OwnCheck}
use Rattle.o2_view.specs.declared.fault.ReadFault.{ReadFault}
use Rattle.o2_view.specs.declared.fault.ReadFault.TheVariants as read
use Rattle.o2_slots.specs.Windows.{is_sound_window_head}

-- of a slot map: SLOT_MAP, of which EXTENT of the same inode is a part
abbrev pub slot_map_checks : ℕ → List OwnCheck
slot_map_checks inode = record { check = check.SlotMap; faults = λ v. fails_unless inode (is_sound_slot_map v inode) } ∷ []

-- of a local alloc: LOCAL_ALLOC, of which only what it says of sizes
abbrev pub window_checks : ℕ → List OwnCheck
window_checks inode = record { check = check.LocalAlloc; faults = λ v. fails_unless inode (is_sound_window_head v inode) } ∷ []

-- of a truncate log: TRUNCATE_LOG, of which only what it says of the counts
abbrev pub truncate_checks : ℕ → List OwnCheck
truncate_checks inode = record { check = check.TruncateLog; faults = λ v. fails_unless inode (is_sound_truncate_header v inode) } ∷ []

-- the fault of a slot map for one that is met in its leaf records
abbrev pub fault_of_map : ℕ → ReadFault → ReadFault
fault_of_map inode (read.Bad judged block) = read.Bad check.SlotMap inode
fault_of_map inode read.NoMemory = read.NoMemory
fault_of_map inode read.DeviceFault = read.DeviceFault
