-- The log of a journal (JBD2): its transactions, and the writes that a replay applies.
use Rattle.std.specs.Prelude.{ℕ, zero, suc, pred, ◌+◌, ◌-◌, ◌*◌, ◌/◌, ◌%◌, ◌^◌, min, Bool, ◌&&◌, not, ◌==◌, nat_lt, List, [], ◌∷◌, ◌++◌, map, filter, length, drop, if◌then◌else◌}
use Rattle.std.specs.List.{list_any}
use Rattle.o2_ondisk.specs.Bits.{has_bits, escaped_tag_flag, same_identifier_tag_flag, last_tag_flag, wide_log_feature}
use Rattle.o2_ondisk.specs.Number.{big_number_at}
use Rattle.o2_ondisk.specs.JournalTags.{journal_tag_of}
use Rattle.o2_ondisk.specs.LogHeaders.{log_header_of}
use Rattle.o2_model.specs.Words.{table, among, push}
use Rattle.o2_model.specs.Orders.{from_to}
use Rattle.o2_model.specs.Volume.{Volume}
use Rattle.o2_model.specs.Journals.{journal_block, journal_super, log_magic}

-- ---- tags of a descriptor
-- What a tag says of a block that was logged.
pub record Tag : Type 0 where
  pub block : ℕ
  -- its first four bytes were those of the magic, and are zero in the log (JBD2_FLAG_ESCAPE)
  pub is_escaped : Bool

-- bytes of a tag, with 64BIT (`wide`) or without
abbrev pub tag_size : Bool → ℕ
tag_size wide = if wide then 12 else 8

-- the tag at the front of these bytes
abbrev pub tag_at_front : Bool → List ℕ → Tag
tag_at_front wide bytes = record {
  block = (journal_tag_of bytes).blocknr + (if wide then 2 ^ 32 * big_number_at 0x8 4 bytes else 0);
  is_escaped = has_bits (journal_tag_of bytes).flags escaped_tag_flag;
}

-- from one tag to the next: an identifier of 16 bytes stands between them, unless it is the same as before (JBD2_FLAG_SAME_UUID)
abbrev pub tag_step : Bool → List ℕ → ℕ
tag_step wide bytes = tag_size wide + (if has_bits (journal_tag_of bytes).flags same_identifier_tag_flag then 0 else 16)

-- it is the last one (JBD2_FLAG_LAST_TAG)
abbrev pub is_last_tag : List ℕ → Bool
is_last_tag bytes = has_bits (journal_tag_of bytes).flags last_tag_flag

-- the tags behind the first `skipped` of these bytes: up to the last one, or as far as whole ones fit
abbrev pub tags_behind : Bool → ℕ → List ℕ → List Tag
tags_behind wide zero [] = []
tags_behind wide (suc skipped) [] = []
tags_behind wide (suc skipped) (b ∷ bytes) = tags_behind wide skipped bytes
tags_behind wide zero (b ∷ bytes) =
    if nat_lt (length (b ∷ bytes)) (tag_size wide) then []
    else if is_last_tag (b ∷ bytes) then tag_at_front wide (b ∷ bytes) ∷ []
    else tag_at_front wide (b ∷ bytes) ∷ tags_behind wide (pred (tag_step wide (b ∷ bytes))) bytes

-- the tags of a descriptor
unfoldable pub tags_of : Bool → List ℕ → List Tag
tags_of wide descriptor = tags_behind wide 0 (drop 12 descriptor)

-- ---- revokes
-- how many bytes of a revoke block are used, counted from its beginning (r_count)
abbrev pub revoke_end : List ℕ → ℕ
revoke_end block = min (big_number_at 0xc 4 block) (length block)

abbrev pub revoke_width : Bool → ℕ
revoke_width wide = if wide then 8 else 4

-- the blocks that a revoke block names, as far as they lie whole below that
unfoldable pub revokes_of : Bool → List ℕ → List ℕ
revokes_of wide block =
    table (big_number_at 0x0 (revoke_width wide)) (revoke_width wide) 0x10 ((revoke_end block - 0x10) / revoke_width wide) block

-- ---- transactions
-- A write that a transaction tells: a block of the volume, and its bytes.
pub record LoggedBlock : Type 0 where
  pub block : ℕ
  pub bytes : List ℕ

-- A transaction: its writes in the order of the log, and the blocks that it revokes.
pub record Transaction : Type 0 where
  pub writes : List LoggedBlock
  pub revoked : List ℕ

abbrev pub no_writes : Transaction
no_writes = record { writes = []; revoked = [] }

-- the four bytes of the magic, in their order on the disk
abbrev pub magic_bytes : List ℕ
magic_bytes = 0xc0 ∷ 0x3b ∷ 0x39 ∷ 0x98 ∷ []

-- the bytes of a logged block as they were before it was logged
unfoldable pub unescaped : Tag → List ℕ → List ℕ
unescaped tag bytes = if tag.is_escaped then magic_bytes ++ drop 4 bytes else bytes

abbrev pub with_write : Transaction → Tag → List ℕ → Transaction
with_write t tag bytes = record t { writes = push t.writes (record { block = tag.block; bytes = unescaped tag bytes }) }

abbrev pub with_revokes : Transaction → List ℕ → Transaction
with_revokes t blocks = record t { revoked = t.revoked ++ blocks }

-- the block begins with a header of that type, in the transaction of that number
unfoldable pub has_log_header : ℕ → ℕ → List ℕ → Bool
has_log_header type sequence block =
    (log_header_of block).magic == log_magic
    && (log_header_of block).blocktype == type
    && (log_header_of block).sequence == sequence

-- types of blocks in a log
abbrev pub descriptor_type : ℕ
descriptor_type = 1

abbrev pub commit_type : ℕ
commit_type = 2

abbrev pub revoke_type : ℕ
revoke_type = 5

-- The whole transactions of these blocks, where the one of this number was begun and these tags wait for their blocks. A
-- descriptor is followed by the blocks of its tags, a commit ends the transaction, and what is none of these ends the log.
abbrev pub read_log : Bool → ℕ → Transaction → List Tag → List (List ℕ) → List Transaction
read_log wide sequence t tags [] = []
read_log wide sequence t (tag ∷ tags) (b ∷ blocks) = read_log wide sequence (with_write t tag b) tags blocks
read_log wide sequence t [] (b ∷ blocks) =
    if has_log_header descriptor_type sequence b then read_log wide sequence t (tags_of wide b) blocks
    else if has_log_header revoke_type sequence b then read_log wide sequence (with_revokes t (revokes_of wide b)) [] blocks
    else if has_log_header commit_type sequence b then t ∷ read_log wide ((sequence + 1) % 2 ^ 32) no_writes [] blocks
    else []

-- ---- a journal's log
-- The blocks of the log, each once: from s_start to the journal's end, and then from s_first on. There are none where s_start
-- is 0.
unfoldable pub log_blocks : Volume → ℕ → List (List ℕ)
log_blocks v b =
    if (journal_super v b).start == 0 then []
    else map (journal_block v b) (from_to (journal_super v b).start (journal_super v b).maxlen ++ from_to (journal_super v b).first (journal_super v b).start)

-- `JBD2_FEATURE_INCOMPAT_64BIT` of the journal's superblock
abbrev pub is_wide : Volume → ℕ → Bool
is_wide v b = has_bits (journal_super v b).feature_incompat wide_log_feature

-- the transactions in the journal whose dinode is in block b
unfoldable pub log_in : Volume → ℕ → List Transaction
log_in v b = read_log (is_wide v b) (journal_super v b).sequence no_writes [] (log_blocks v b)

-- ---- what is committed
-- one of these transactions revokes the block
abbrev pub is_revoked_by : List Transaction → ℕ → Bool
is_revoked_by transactions b = list_any (λ t. among t.revoked b) transactions

-- the writes that no revoke of their own transaction or of a later one suppresses, in the order of the log
abbrev pub unrevoked : List Transaction → List LoggedBlock
unrevoked [] = []
unrevoked (t ∷ ts) = filter (λ w. not (is_revoked_by (t ∷ ts) w.block)) t.writes ++ unrevoked ts
