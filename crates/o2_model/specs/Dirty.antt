-- The journals that are to be replayed, what is wrong with them, and what they write.
use Rattle.std.specs.Prelude.{ℕ, Bool, false, ◌&&◌, not, ◌==◌, List, [], ◌∷◌, flat_map, filter, fold, if◌then◌else◌, Option, Some, None, option_and_then}
use Rattle.std.specs.Option.{option_map_or}
use Rattle.o2_ondisk.specs.Bits.{has_bits, journal_inode_flag}
use Rattle.o2_model.specs.declared.journal_part.JournalPart.{JournalPart}
use Rattle.o2_model.specs.declared.journal_part.JournalPart.TheVariants.{Extents, Superblock, Features}
use Rattle.o2_model.specs.Orders.{is_none_of, first_of}
use Rattle.o2_model.specs.Volume.{Volume, over, dinode, is_valid}
use Rattle.o2_model.specs.Inodes.{leaf_records}
use Rattle.o2_model.specs.LeafRecords.{are_without_gap}
use Rattle.o2_model.specs.SystemFiles.{slots}
use Rattle.o2_model.specs.Journals.{named_journal, is_dirty, is_sound_journal_super, has_known_features}
use Rattle.o2_model.specs.Logs.{LoggedBlock, Transaction, log_in, unrevoked}
use Rattle.o2_model.specs.Checks.Extent.{extent_faults}

-- ---- dirty slots
-- a valid dinode with `OCFS2_JOURNAL_FL` of i_flags
unfoldable pub is_journal : Volume → ℕ → Bool
is_journal v b = is_valid v b && has_bits (dinode v b).flags.0 journal_inode_flag

abbrev pub journal_if : Volume → ℕ → Option ℕ
journal_if v b = if is_journal v b then Some b else None

-- the journal of a slot, where its name names one
unfoldable pub slot_journal : Volume → ℕ → Option ℕ
slot_journal v slot = option_and_then (journal_if v) (named_journal v slot)

abbrev pub is_dirty_slot : Volume → ℕ → Bool
is_dirty_slot v slot = option_map_or (is_dirty v) (slot_journal v slot) false

-- the slots whose journals are to be replayed, rising
unfoldable pub dirty_slots : Volume → List ℕ
dirty_slots v = filter (is_dirty_slot v) (slots v)

-- ---- what is wrong with one
-- EXTENT holds, there are leaf records, and they follow one another; their flags are not looked at
abbrev pub has_journal_extents : Volume → ℕ → Bool
has_journal_extents v b =
    is_none_of (extent_faults v b) && not (is_none_of (leaf_records v b)) && are_without_gap (leaf_records v b)

-- the first part of the journal that a replay can't use
unfoldable pub journal_part_fault : Volume → ℕ → Option JournalPart
journal_part_fault v b =
    if not (has_journal_extents v b) then Some Extents
    else if not (is_sound_journal_super v b) then Some Superblock
    else if not (has_known_features v b) then Some Features
    else None

-- the same of a slot, where there is one
abbrev pub slot_fault : Volume → ℕ → List (ℕ × JournalPart)
slot_fault v slot = option_map_or (λ part. (slot, part) ∷ []) (option_and_then (journal_part_fault v) (slot_journal v slot)) []

-- the first dirty slot whose journal can't be used, and why
unfoldable pub journal_fault : Volume → Option (ℕ × JournalPart)
journal_fault v = first_of (flat_map (slot_fault v) (dirty_slots v))

-- ---- what they write
-- the transactions in a slot's journal
unfoldable pub log_of : Volume → ℕ → List Transaction
log_of v slot = option_map_or (log_in v) (slot_journal v slot) []

-- the writes of a slot that a replay applies, in the order of its log
unfoldable pub committed_writes : Volume → ℕ → List LoggedBlock
committed_writes v slot = unrevoked (log_of v slot)

-- those of all dirty slots, slot by slot
unfoldable pub all_committed_writes : Volume → List LoggedBlock
all_committed_writes v = flat_map (committed_writes v) (dirty_slots v)

-- the bytes of block b after these writes, where it has these before
abbrev pub bytes_after : List LoggedBlock → ℕ → List ℕ → List ℕ
bytes_after writes b before = fold (λ bytes w. if w.block == b then w.bytes else bytes) before writes

-- the volume as all logs leave it, with the numbers that its superblock has now
unfoldable pub as_logged : Volume → Volume
as_logged v = over v (λ b. bytes_after (all_committed_writes v) b (v.at b))
