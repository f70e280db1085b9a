-- What a replay rests on, and must not write while it reads the logs.
use Rattle.std.specs.Prelude.{ℕ, ◌^◌, Bool, false, ◌&&◌, ◌||◌, not, ◌==◌, nat_lt, nat_le, List, [], ◌∷◌, ◌++◌, map, flat_map, filter, drop, bytes_eq, if◌then◌else◌, Option}
use Rattle.std.specs.List.{list_all}
use Rattle.std.specs.Option.{option_map_or}
use Rattle.o2_ondisk.specs.Fields.{paste_at, bytes_at}
use Rattle.o2_ondisk.specs.Super.{super_of}
use Rattle.o2_ondisk.specs.Dinodes.{dinode_of, last_part_place}
use Rattle.o2_model.specs.Words.{among}
use Rattle.o2_model.specs.Orders.{from_to, first_of}
use Rattle.o2_model.specs.Volume.{Volume, over}
use Rattle.o2_model.specs.Inodes.{is_inline, extent_blocks_of}
use Rattle.o2_model.specs.Directories.{dir_blocks}
use Rattle.o2_model.specs.Journals.{named_journal, journal_blocks, journal_super, is_dirty}
use Rattle.o2_model.specs.Logs.{LoggedBlock}
use Rattle.o2_model.specs.Dirty.{is_journal, slot_journal, dirty_slots, committed_writes, as_logged}
use Rattle.o2_model.specs.Checks.Sysdir.{is_sound_directory}
use Rattle.o2_model.specs.Checks.Journal.{is_sound_journal}

-- ---- anchors
-- a directory's dinode, extent blocks and directory blocks; the block of an inline one is its dinode's
abbrev pub directory_anchors : Volume → ℕ → List ℕ
directory_anchors v d = if is_inline v d then d ∷ [] else d ∷ extent_blocks_of v d ++ map (λ b. b.block) (dir_blocks v d)

-- a journal's dinode, extent blocks and clusters
abbrev pub journal_anchors : Volume → ℕ → List ℕ
journal_anchors v b = b ∷ extent_blocks_of v b ++ journal_blocks v b

-- blocks 0 to 2, the system directory, and the journals of the dirty slots
unfoldable pub anchors_of : Volume → List ℕ
anchors_of v =
    0 ∷ 1 ∷ 2 ∷ directory_anchors v v.geo.sysdir
    ++ flat_map (λ slot. option_map_or (journal_anchors v) (slot_journal v slot) []) (dirty_slots v)

-- the system directory as the logs leave it, and the journals that it then names for the dirty slots, with the lists that
-- these have now
unfoldable pub anchors_as_logged : Volume → List ℕ
anchors_as_logged v =
    directory_anchors (as_logged v) v.geo.sysdir
    ++ flat_map (λ slot. option_map_or (journal_anchors v) (named_journal (as_logged v) slot) []) (dirty_slots v)

abbrev pub is_anchor : Volume → ℕ → Bool
is_anchor v b = among (anchors_of v) b || among (anchors_as_logged v) b

-- ---- writes to an anchor that are allowed
-- block 2 with the old i_clusters, s_max_slots and s_label in place of the new ones
abbrev pub with_old_numbers : List ℕ → List ℕ → List ℕ
with_old_numbers old new =
    paste_at 0x14 (bytes_at 0x14 4 old) (paste_at 0x100 (bytes_at 0x100 2 old) (paste_at 0x110 (bytes_at 0x110 64 old) new))

-- how many slots, and how many clusters, the bytes of block 2 tell
abbrev pub slots_in : List ℕ → ℕ
slots_in bytes = (super_of (drop last_part_place bytes)).max_slots

abbrev pub clusters_in : List ℕ → ℕ
clusters_in bytes = (dinode_of bytes).clusters

-- the slot's name in the one volume names a journal that is dirty in the other
abbrev pub names_dirty_journal : Volume → Volume → ℕ → Bool
names_dirty_journal names dinodes slot =
    option_map_or (λ b. is_journal dinodes b && is_dirty dinodes b) (named_journal names slot) false

-- nor is it dirty by the names or the dinodes that the logs leave
abbrev pub is_clean_slot : Volume → ℕ → Bool
is_clean_slot v slot =
    not (names_dirty_journal v v slot)
    && not (names_dirty_journal v (as_logged v) slot)
    && not (names_dirty_journal (as_logged v) v slot)
    && not (names_dirty_journal (as_logged v) (as_logged v) slot)

-- Block 2 takes another label, another number of slots or of clusters, and stays else. The clusters are supported, each dirty
-- slot is still counted, and no slot that comes is dirty.
unfoldable pub is_super_change : Volume → LoggedBlock → Bool
is_super_change v w =
    w.block == 2
    && bytes_eq (with_old_numbers (v.at 2) w.bytes) (v.at 2)
    && nat_le (clusters_in w.bytes) (2 ^ 30)
    && list_all (λ slot. nat_lt slot (slots_in w.bytes)) (dirty_slots v)
    && list_all (is_clean_slot v) (from_to v.geo.slots (slots_in w.bytes))

-- the slot's name names the same inode when the logs are replayed
abbrev pub keeps_journal : Volume → ℕ → Bool
keeps_journal v slot =
    option_map_or (λ b. option_map_or (λ c. b == c) (named_journal (as_logged v) slot) false) (named_journal v slot) false

-- the system directory is one as the logs leave it, and names the same journals for the dirty slots
unfoldable pub is_directory_change : Volume → LoggedBlock → Bool
is_directory_change v w =
    w.block == v.geo.sysdir
    && is_sound_directory (as_logged v) v.geo.sysdir
    && list_all (keeps_journal v) (dirty_slots v)

-- the volume as the logs leave it, with the bytes of this write
abbrev pub with_logged : Volume → LoggedBlock → Volume
with_logged v w = over v (λ b. if b == w.block then w.bytes else (as_logged v).at b)

-- the slot's own journal becomes another one, which is well formed, empty and clean
unfoldable pub is_journal_change : Volume → ℕ → LoggedBlock → Bool
is_journal_change v slot w =
    option_map_or (λ b. w.block == b) (slot_journal v slot) false
    && is_sound_journal (with_logged v w) w.block
    && (journal_super (with_logged v w) w.block).start == 0
    && not (is_dirty (with_logged v w) w.block)

-- one of the three, and the bytes behind the block's first sector stay
unfoldable pub is_allowed_write : Volume → ℕ → LoggedBlock → Bool
is_allowed_write v slot w =
    bytes_eq (drop 512 w.bytes) (drop 512 (v.at w.block))
    && (is_super_change v w || is_directory_change v w || is_journal_change v slot w)

-- ---- the first bad write
-- a write lies on the device, and is to no anchor or allowed
unfoldable pub is_sound_write : Volume → ℕ → LoggedBlock → Bool
is_sound_write v slot w =
    nat_lt w.block v.on_device && (not (is_anchor v w.block) || is_allowed_write v slot w)

-- the bad ones of a slot, each with the slot
abbrev pub bad_writes : Volume → ℕ → List (ℕ × ℕ)
bad_writes v slot = map (λ w. (slot, w.block)) (filter (λ w. not (is_sound_write v slot w)) (committed_writes v slot))

-- the first of all dirty slots: the slot, and the block
unfoldable pub log_fault : Volume → Option (ℕ × ℕ)
log_fault v = first_of (flat_map (bad_writes v) (dirty_slots v))
