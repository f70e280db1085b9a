-- Where nothing fails, blocks that agree on the held ones keep the checks of the root, the system directory, its files and the slot
-- map.
use Rattle.std.proofs.Common.{◌≡◌, inl, inr, ℕ, Bool, true, false, not, ◌&&◌, ◌==◌, List, [], ◌++◌, map, refl, ◌∙◌, ap}
use Rattle.std.specs.List.{list_all}
use Rattle.std.specs.Prelude.{filter}
use Rattle.std.specs.Option.{option_map_or}
use Rattle.std.proofs.lemmas.Bool.{cases_Bool}
use Rattle.o2_model.specs.declared.check.Check.TheVariants as check
use Rattle.o2_model.specs.declared.system_file.SystemFile.TheVariants.{SlotMap}
use Rattle.o2_model.specs.Faults.{fails_unless, fails_at}
use Rattle.o2_model.specs.Orders.{later_like, is_none_of}
use Rattle.o2_model.specs.Volume.{Volume, over, is_valid}
use Rattle.o2_model.specs.Inodes.{is_directory, is_file, extents, leaf_records}
use Rattle.o2_model.specs.declared.entry.Entry.{Entry}
use Rattle.o2_model.specs.Directories.{directory_entries, is_dot}
use Rattle.o2_model.specs.SystemFiles.{required_files, system_inode}
use Rattle.o2_model.specs.Groups.{has_inode_bit, is_inode}
use Rattle.o2_model.specs.Checks.InodeSize.{inode_size_faults}
use Rattle.o2_model.specs.Checks.DirBlock.{is_sound_dir_block, dir_block_faults}
use Rattle.o2_model.specs.Checks.DirentName.{dirent_name_faults}
use Rattle.o2_model.specs.Checks.DirentDup.{dirent_dup_faults}
use Rattle.o2_model.specs.Checks.Sysdir.{directory_faults, is_sound_directory}
use Rattle.o2_model.specs.Checks.Root.{is_sound_root}
use Rattle.o2_model.specs.Checks.Sysfile.{is_there, has_system_files, has_flags_of_name, has_kind_of_name, is_sound_system_entry, system_entries}
use Rattle.o2_model.specs.Checks.SlotMap.{is_sound_slot_map}
use Rattle.o2_model.specs.Failing.{faults, failing}
use Rattle.o2_laws.proofs.Held.HeldBlocks.{AgreesOnHeld}
use Rattle.o2_laws.proofs.SameAllocators.{inode_same}
use Rattle.o2_laws.proofs.Agreeing.{all_agree, fails_agree, option_agree}
use Rattle.o2_laws.proofs.Held.OwnInodes.{root_is_inode, sysdir_is_inode, sysdir_is_directory, file_is_inode, directory_apart}
use Rattle.o2_laws.proofs.Held.HeldTells.{dinode_same, held_tell_extents, held_tell_dir_blocks, held_tell_entries}
use Rattle.o2_laws.proofs.Held.HeldTables.{held_tell_system_files, held_tell_inode, bits_same}
use Rattle.o2_laws.proofs.SameInodes.{directory_same, valid_same}
use Rattle.o2_laws.proofs.Kept.JournalsKeep.{extent_faults_same}
use Rattle.o2_laws.proofs.Kept.InodeChecksKeep.{sound_size_same}

-- ---- the root
root_same : (v : Volume) (at : ℕ → List ℕ) → at v.geo.root ≡ v.at v.geo.root → is_sound_root (over v at) ≡ is_sound_root v
unfolding is_sound_root
root_same v at same = rw (valid_same v at v.geo.root same, directory_same v at v.geo.root same) refl

pub keeps_root : (v : Volume) (at : ℕ → List ℕ) → failing v ≡ [] → AgreesOnHeld v at → faults (over v at) check.Root ≡ faults v check.Root
unfolding faults
keeps_root v at none agrees = ap (fails_unless v.geo.root) (root_same v at (dinode_same v at v.geo.root agrees (root_is_inode v none)))

-- ---- the slot map
slot_map_same : (v : Volume) (at : ℕ → List ℕ) (b : ℕ) → extents (over v at) b ≡ extents v b → is_sound_slot_map (over v at) b ≡ is_sound_slot_map v b
unfolding is_sound_slot_map
slot_map_same v at b list =
    let records : leaf_records (over v at) b ≡ leaf_records v b = ap (λ t. t.leaves) list in
    rw (extent_faults_same v at b list, records) refl

pub keeps_slot_map : (v : Volume) (at : ℕ → List ℕ) → failing v ≡ [] → AgreesOnHeld v at → faults (over v at) check.SlotMap ≡ faults v check.SlotMap
unfolding faults
keeps_slot_map v at none agrees =
    ap (λ o. option_map_or (λ b. fails_unless b (is_sound_slot_map (over v at) b)) o []) (inode_same v at (held_tell_system_files v at none agrees) SlotMap)
    ∙ option_agree (λ b. fails_unless b (is_sound_slot_map (over v at) b)) (λ b. fails_unless b (is_sound_slot_map v b)) (system_inode v SlotMap) []
    (λ b named. ap (fails_unless b) (slot_map_same v at b (held_tell_extents v at b none agrees (file_is_inode v SlotMap b none named))))

-- ---- the system directory
-- those of the five checks that ask for entries
entry_faults_same : (v : Volume) (at : ℕ → List ℕ) (d : ℕ) → directory_entries (over v at) d ≡ directory_entries v d
    → (dirent_name_faults (over v at) d ≡ dirent_name_faults v d) × (dirent_dup_faults (over v at) d ≡ dirent_dup_faults v d)
entry_faults_same v at d entries = (rw entries refl, rw entries refl)

-- all five fail at the same blocks of a directory
directory_faults_same : (v : Volume) (at : ℕ → List ℕ) (d : ℕ) → failing v ≡ [] → AgreesOnHeld v at → is_inode v d ≡ true → is_directory v d ≡ true → directory_faults (over v at) d ≡ directory_faults v d
directory_faults_same v at d none agrees is directory =
    let apart = directory_apart v d none directory in
    let list = held_tell_extents v at d none agrees is in
    let blocks = held_tell_dir_blocks v at d none agrees is apart in
    let size : inode_size_faults (over v at) d ≡ inode_size_faults v d
    = ap (fails_unless d) (sound_size_same v at d none agrees is) in
    let entries = entry_faults_same v at d (held_tell_entries v at d none agrees is apart) in
    let extent = extent_faults_same v at d list in
    let of_blocks : dir_block_faults (over v at) d ≡ dir_block_faults v d = ap (fails_at (λ b. b.block) is_sound_dir_block) blocks in
    let names = entries.0 in
    let later = entries.1 in
    cc

pub held_tell_sound_directory : (v : Volume) (at : ℕ → List ℕ) (d : ℕ) → failing v ≡ [] → AgreesOnHeld v at → is_inode v d ≡ true → is_directory v d ≡ true
    → is_sound_directory (over v at) d ≡ is_sound_directory v d
unfolding is_sound_directory
held_tell_sound_directory v at d none agrees is directory =
    let same = dinode_same v at d agrees is in
    let all = directory_faults_same v at d none agrees is directory in
    ap (λ x. x && is_directory (over v at) d && is_none_of (directory_faults (over v at) d)) (valid_same v at d same)
    ∙ (ap (λ x. is_valid v d && x && is_none_of (directory_faults (over v at) d)) (directory_same v at d same)
    ∙ ap (λ ns. is_valid v d && is_directory v d && is_none_of ns) all)

pub keeps_sysdir : (v : Volume) (at : ℕ → List ℕ) → failing v ≡ [] → AgreesOnHeld v at → faults (over v at) check.Sysdir ≡ faults v check.Sysdir
unfolding faults
keeps_sysdir v at none agrees = ap (fails_unless v.geo.sysdir) (held_tell_sound_directory v at v.geo.sysdir none agrees (sysdir_is_inode v none) (sysdir_is_directory v none))

-- ---- its files
flags_same : (v : Volume) (at : ℕ → List ℕ) (e : Entry) → at e.inode ≡ v.at e.inode → has_flags_of_name (over v at) e ≡ has_flags_of_name v e
unfolding has_flags_of_name
flags_same v at e same = rw same refl

named_kind_same : (v : Volume) (at : ℕ → List ℕ) (e : Entry) → at e.inode ≡ v.at e.inode → has_kind_of_name (over v at) e ≡ has_kind_of_name v e
unfolding has_kind_of_name is_directory is_file
named_kind_same v at e same = rw same refl

entry_same : (v : Volume) (at : ℕ → List ℕ) (e : Entry) → failing v ≡ [] → AgreesOnHeld v at → is_sound_system_entry (over v at) e ≡ is_sound_system_entry v e
unfolding is_sound_system_entry
entry_same v at e none agrees = elim (cases_Bool (is_inode v e.inode)) [
  | inr absent ↦ rw (held_tell_inode v at e.inode none agrees, absent) refl
  | inl there ↦
      let same = dinode_same v at e.inode agrees there in
      rw (held_tell_inode v at e.inode none agrees, named_kind_same v at e same, flags_same v at e same, same) refl
]

-- no file is missing where none was
there_same : (v : Volume) (at : ℕ → List ℕ) → failing v ≡ [] → AgreesOnHeld v at → has_system_files (over v at) ≡ has_system_files v
unfolding has_system_files required_files
there_same v at none agrees =
    let files = held_tell_system_files v at none agrees in
    let all = all_agree (is_there (over v at)) (is_there v) (required_files v) (λ file is. ap (λ o. option_map_or (λ b. true) o false) (inode_same v at files file)) in
    ap (λ x. x && has_inode_bit (over v at) v.geo.root && has_inode_bit (over v at) v.geo.sysdir) all
    ∙ (ap (λ x. list_all (is_there v) (required_files v) && x && has_inode_bit (over v at) v.geo.sysdir) (bits_same v at v.geo.root none agrees)
    ∙ ap (λ x. list_all (is_there v) (required_files v) && has_inode_bit v v.geo.root && x) (bits_same v at v.geo.sysdir none agrees))

-- where it fails, by whether no file is missing, by what is judged of each entry, and by the entries
abbrev file_faults : Volume → Bool → (Entry → Bool) → List Entry → List ℕ
file_faults v there holds es =
    fails_unless v.geo.sysdir there ++ fails_at (λ e. e.inode) holds es ++ map (λ e. e.inode) (later_like (λ e f. e.inode == f.inode) es)

pub keeps_sysfile : (v : Volume) (at : ℕ → List ℕ) → failing v ≡ [] → AgreesOnHeld v at → faults (over v at) check.Sysfile ≡ faults v check.Sysfile
unfolding faults
keeps_sysfile v at none agrees =
    let files = held_tell_system_files v at none agrees in
    ap (λ there. file_faults v there (is_sound_system_entry (over v at)) (system_entries (over v at))) (there_same v at none agrees)
    ∙ (ap (λ es. file_faults v (has_system_files v) (is_sound_system_entry (over v at)) (filter (λ e. not (is_dot e)) es)) files.entries
    ∙ ap (λ ns. fails_unless v.geo.sysdir (has_system_files v) ++ ns ++ map (λ e. e.inode) (later_like (λ e f. e.inode == f.inode) (system_entries v)))
    (fails_agree (λ e. e.inode) (is_sound_system_entry (over v at)) (is_sound_system_entry v) (system_entries v) (λ e is. entry_same v at e none agrees)))
