-- The journals of a volume: their blocks and their superblocks.
use Rattle.std.specs.Prelude.{ℕ, ◌+◌, Bool, ◌&&◌, ◌||◌, ◌==◌, nat_lt, nat_le, List, [], ◌∷◌, flat_map, length, slice_get, Option}
use Rattle.std.specs.Option.{option_map_or}
use Rattle.o2_ondisk.specs.Bits.{has_bits, dirty_journal_flag, revoke_log_feature, wide_log_feature}
use Rattle.o2_ondisk.specs.JournalSupers.{journal_super_of}
use Rattle.o2_ondisk.specs.declared.journal_super.JournalSuper.{JournalSuper}
use Rattle.o2_model.specs.declared.system_file.SlotFile.TheVariants.{Journal}
use Rattle.o2_model.specs.declared.system_file.SystemFile.TheVariants.{OfSlot}
use Rattle.o2_model.specs.Volume.{Volume, block_size, dinode}
use Rattle.o2_model.specs.Inodes.{leaf_records}
use Rattle.o2_model.specs.LeafRecords.{blocks_under}
use Rattle.o2_model.specs.SystemFiles.{system_inode, slots}

-- ---- which there are
-- the journal that the slot's name names
abbrev pub named_journal : Volume → ℕ → Option ℕ
named_journal v slot = system_inode v (OfSlot Journal slot)

-- those of all slots, slot by slot
unfoldable pub journals : Volume → List ℕ
journals v = flat_map (λ slot. option_map_or (λ b. b ∷ []) (named_journal v slot) []) (slots v)

-- `OCFS2_JOURNAL_DIRTY_FL` of ij_flags, the lowest of its bits
abbrev pub is_dirty : Volume → ℕ → Bool
is_dirty v b = has_bits (dinode v b).role_data.0 dirty_journal_flag

-- ---- blocks
-- the journal's blocks in the order of its clusters
unfoldable pub journal_blocks : Volume → ℕ → List ℕ
journal_blocks v b = flat_map (blocks_under v) (leaf_records v b)

-- the bytes of its block k, none where it has no such block
abbrev pub journal_block : Volume → ℕ → ℕ → List ℕ
journal_block v b k = option_map_or v.at (slice_get (journal_blocks v b) k) []

-- ---- the superblock
-- what its first block says (journal_superblock_t)
abbrev pub journal_super : Volume → ℕ → JournalSuper
journal_super v b = journal_super_of (journal_block v b 0)

-- `JBD2_MAGIC_NUMBER`
abbrev pub log_magic : ℕ
log_magic = 0xc03b_3998

-- the log begins behind the superblock, and ends within the journal's blocks
abbrev pub has_sound_bounds : ℕ → JournalSuper → Bool
has_sound_bounds blocks s =
    nat_le s.maxlen blocks
    && nat_le 1 s.first
    && nat_lt s.first s.maxlen
    && (s.start == 0 || (nat_le s.first s.start && nat_lt s.start s.maxlen))

-- it has the magic and the type of a superblock of version 2, the volume's block size, and bounds that fit
unfoldable pub is_sound_journal_super : Volume → ℕ → Bool
is_sound_journal_super v b =
    (journal_super v b).magic == log_magic
    && (journal_super v b).blocktype == 4
    && (journal_super v b).blocksize == block_size v
    && has_sound_bounds (length (journal_blocks v b)) (journal_super v b)

-- `JBD2_FEATURE_INCOMPAT_REVOKE` and `JBD2_FEATURE_INCOMPAT_64BIT`, 1 and 2, are the only features that it may have
unfoldable pub has_known_features : Volume → ℕ → Bool
has_known_features v b =
    (journal_super v b).feature_compat == 0
    && (journal_super v b).feature_ro_compat == 0
    && nat_le (journal_super v b).feature_incompat (revoke_log_feature + wide_log_feature)
