-- The files of the system directory, by their names.
use Rattle.std.specs.Prelude.{ℕ, ◌+◌, ◌-◌, ◌*◌, ◌/◌, ◌%◌, List, [], ◌∷◌, ◌++◌, map, flat_map, fold, drop, length, codes, bytes_eq, Option, Some, None, option_map, if◌then◌else◌}
use Rattle.std.specs.List.{range_with_len}
use Rattle.o2_model.specs.declared.system_file.SlotFile.{SlotFile}
use Rattle.o2_model.specs.declared.system_file.SlotFile.TheVariants.{OrphanDir, ExtentAlloc, InodeAlloc, Journal, LocalAlloc, TruncateLog}
use Rattle.o2_model.specs.declared.system_file.SystemFile.{SystemFile}
use Rattle.o2_model.specs.declared.system_file.SystemFile.TheVariants.{BadBlocks, GlobalInodeAlloc, SlotMap, Heartbeat, GlobalBitmap, OfSlot}
use Rattle.o2_model.specs.Volume.{Volume}
use Rattle.o2_model.specs.Directories.{first_named}

-- the slot's number in four decimal digits
abbrev pub slot_digits : ℕ → List ℕ
slot_digits slot = (48 + slot / 1000 % 10) ∷ (48 + slot / 100 % 10) ∷ (48 + slot / 10 % 10) ∷ (48 + slot % 10) ∷ []

abbrev pub slot_file_name : SlotFile → List ℕ
slot_file_name OrphanDir = codes "orphan_dir"
slot_file_name ExtentAlloc = codes "extent_alloc"
slot_file_name InodeAlloc = codes "inode_alloc"
slot_file_name Journal = codes "journal"
slot_file_name LocalAlloc = codes "local_alloc"
slot_file_name TruncateLog = codes "truncate_log"

-- the name of the file in the system directory
unfoldable pub system_name : SystemFile → List ℕ
system_name BadBlocks = codes "bad_blocks"
system_name GlobalInodeAlloc = codes "global_inode_alloc"
system_name SlotMap = codes "slot_map"
system_name Heartbeat = codes "heartbeat"
system_name GlobalBitmap = codes "global_bitmap"
system_name (OfSlot file slot) = slot_file_name file ++ codes ":" ++ slot_digits slot

-- the number that these bytes are as decimal digits
abbrev pub decimal_number : List ℕ → ℕ
decimal_number digits = fold (λ n digit. 10 * n + (digit - 48)) 0 digits

-- the slot whose file of this kind has the name, as the name's last four bytes tell it; any other name is of no slot
unfoldable pub slot_in_name : SlotFile → List ℕ → Option ℕ
slot_in_name file name =
    let slot = decimal_number (drop (length name - 4) name) in
    if bytes_eq name (system_name (OfSlot file slot)) then Some slot else None

-- what a slot has, in the order in which its files are told
abbrev pub slot_files : List SlotFile
slot_files = OrphanDir ∷ ExtentAlloc ∷ InodeAlloc ∷ Journal ∷ LocalAlloc ∷ TruncateLog ∷ []

abbrev pub files_of_slot : ℕ → List SystemFile
files_of_slot slot = map (λ file. OfSlot file slot) slot_files

-- the slots that the superblock counts (s_max_slots)
abbrev pub slots : Volume → List ℕ
slots v = range_with_len 0 v.geo.slots

-- the files that may not be missing
unfoldable pub required_files : Volume → List SystemFile
required_files v = GlobalInodeAlloc ∷ SlotMap ∷ GlobalBitmap ∷ flat_map files_of_slot (slots v)

-- the inode that the first entry of the file's name names
unfoldable pub system_inode : Volume → SystemFile → Option ℕ
system_inode v file = option_map (λ e. e.inode) (first_named v v.geo.sysdir (system_name file))
