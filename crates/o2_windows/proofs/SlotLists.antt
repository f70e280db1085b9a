-- The slots that have a file, one more at a time.
use Rattle.std.proofs.Common.{◌≡◌, ℕ, ◌+◌, ◌++◌, sym, ap}
use Rattle.std.specs.Prelude.{flat_map}
use Rattle.std.specs.List.{range_with_len}
use Rattle.o2_model.specs.declared.system_file.SlotFile.{SlotFile}
use Rattle.o2_model.specs.Volume.{Volume}
use Rattle.o2_survey.proofs.SlotLists.{one_slot_more}
use Rattle.o2_windows.specs.SlotRows.{inode_of_slot, inodes_of_slots}

pub next_slot : (v : Volume) (file : SlotFile) (slot : ℕ) → flat_map (inode_of_slot v file) (range_with_len 0 slot) ++ inode_of_slot v file slot ≡ flat_map (inode_of_slot v file) (range_with_len 0 (slot + 1))
next_slot v file slot = sym (one_slot_more (inode_of_slot v file) slot)

pub all_slots : (v : Volume) (file : SlotFile) (slot : ℕ) → slot ≡ v.geo.slots → flat_map (inode_of_slot v file) (range_with_len 0 slot) ≡ inodes_of_slots v file
unfolding inodes_of_slots
all_slots v file slot last = ap (λ n. flat_map (inode_of_slot v file) (range_with_len 0 n)) last
