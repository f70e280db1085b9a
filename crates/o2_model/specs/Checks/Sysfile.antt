-- SYSFILE, number 3, at the inode that the entry names; for what is missing, the system directory: no required file is missing;
-- each entry but the dots names an inode on a bit, of the kind and with the flags of its name, neither the root nor the system
-- directory, and no inode is named twice; no name is of a slot that there is not; no file of a slot shares clusters; the root and
-- the system directory stand on bits.
use Rattle.std.specs.Prelude.{ℕ, Bool, true, false, ◌&&◌, ◌||◌, not, ◌==◌, nat_le, List, ◌++◌, map, is_some, if◌then◌else◌}
use Rattle.std.specs.List.{list_any, list_all}
use Rattle.std.specs.Option.{option_map_or}
use Rattle.o2_ondisk.specs.Bits.{has_bits, chain_inode_flag, bitmap_inode_flag, journal_inode_flag, local_alloc_inode_flag, dealloc_inode_flag}
use Rattle.o2_ondisk.specs.declared.kind.Kind.TheVariants.{File, Directory}
use Rattle.o2_ondisk.specs.Kinds.{type_of_kind}
use Rattle.o2_model.specs.declared.system_file.SlotFile.{SlotFile}
use Rattle.o2_model.specs.declared.system_file.SlotFile.TheVariants.{OrphanDir, ExtentAlloc, InodeAlloc, Journal, LocalAlloc, TruncateLog}
use Rattle.o2_model.specs.declared.system_file.SystemFile.{SystemFile}
use Rattle.o2_model.specs.declared.system_file.SystemFile.TheVariants.{GlobalInodeAlloc, GlobalBitmap}
use Rattle.o2_model.specs.Faults.{fails_unless, fails_at}
use Rattle.o2_model.specs.Orders.{later_like}
use Rattle.o2_model.specs.Volume.{Volume, dinode}
use Rattle.o2_model.specs.Inodes.{is_directory, is_file}
use Rattle.o2_model.specs.declared.entry.Entry.{Entry}
use Rattle.o2_model.specs.Directories.{named_entries, is_named}
use Rattle.o2_model.specs.SystemFiles.{system_name, slot_in_name, system_inode, required_files, slot_files}
use Rattle.o2_model.specs.Groups.{has_inode_bit, is_inode}
use Rattle.o2_model.specs.RefcountTrees.{has_refcount}

-- ---- what is there
abbrev pub is_there : Volume → SystemFile → Bool
is_there v file = option_map_or (λ b. true) (system_inode v file) false

-- no file is missing, and the root and the system directory stand on bits
unfoldable pub has_system_files : Volume → Bool
has_system_files v = list_all (is_there v) (required_files v) && has_inode_bit v v.geo.root && has_inode_bit v v.geo.sysdir

-- ---- what a name asks for
-- the entry has the name of such a file of a slot, whatever its number
abbrev pub is_name_of_slot : SlotFile → Entry → Bool
is_name_of_slot file e = is_some (slot_in_name file e.name)

-- the entry has a slot's name
abbrev pub is_slot_name : Entry → Bool
is_slot_name e = list_any (λ file. is_name_of_slot file e) slot_files

-- the entry has the name of a slot that the superblock does not count
abbrev pub is_name_beyond_slots : Volume → Entry → Bool
is_name_beyond_slots v e = list_any (λ file. option_map_or (nat_le v.geo.slots) (slot_in_name file e.name) false) slot_files

-- an allocator's name
abbrev pub is_allocator_name : Entry → Bool
is_allocator_name e =
    is_named (system_name GlobalBitmap) e
    || is_named (system_name GlobalInodeAlloc) e
    || is_name_of_slot ExtentAlloc e
    || is_name_of_slot InodeAlloc e

-- the inode has the flag, where it is asked for
abbrev pub has_flag_if : Volume → Bool → ℕ → Entry → Bool
has_flag_if v asked flag e = not asked || has_bits (dinode v e.inode).flags.0 flag

-- it has the flags that its name asks for
unfoldable pub has_flags_of_name : Volume → Entry → Bool
has_flags_of_name v e =
    has_flag_if v (is_allocator_name e) chain_inode_flag e
    && has_flag_if v (is_allocator_name e) bitmap_inode_flag e
    && has_flag_if v (is_name_of_slot Journal e) journal_inode_flag e
    && has_flag_if v (is_name_of_slot LocalAlloc e) local_alloc_inode_flag e
    && has_flag_if v (is_name_of_slot TruncateLog e) dealloc_inode_flag e

-- an orphan directory is a directory, and every other name is a file's; the entry and the dinode agree
unfoldable pub has_kind_of_name : Volume → Entry → Bool
has_kind_of_name v e =
    if is_name_of_slot OrphanDir e
    then is_directory v e.inode && e.file_type == type_of_kind Directory
    else is_file v e.inode && e.file_type == type_of_kind File

-- ---- the check
-- The entry names a valid dinode on a bit, of the kind and with the flags of its name, that is neither the root nor the
-- system directory. Its name is none of a slot that there is not, and a slot's file shares no clusters.
unfoldable pub is_sound_system_entry : Volume → Entry → Bool
is_sound_system_entry v e =
    is_inode v e.inode
    && has_kind_of_name v e
    && has_flags_of_name v e
    && not (is_name_beyond_slots v e)
    && not (is_slot_name e && has_refcount v e.inode)
    && not (e.inode == v.geo.root)
    && not (e.inode == v.geo.sysdir)

-- the entries of the system directory but the dots
abbrev pub system_entries : Volume → List Entry
system_entries v = named_entries v v.geo.sysdir

abbrev pub sysfile_faults : Volume → List ℕ
sysfile_faults v =
    fails_unless v.geo.sysdir (has_system_files v)
    ++ fails_at (λ e. e.inode) (is_sound_system_entry v) (system_entries v)
    ++ map (λ e. e.inode) (later_like (λ e f. e.inode == f.inode) (system_entries v))
