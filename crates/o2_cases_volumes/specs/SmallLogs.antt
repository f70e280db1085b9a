-- Blocks of a small log, as short as what is read of them.
use Rattle.std.specs.Prelude.{ℕ, List, [], ◌∷◌, ◌++◌, map}
use Rattle.byteorder.specs.Endian.{big_bytes}
use Rattle.o2_ondisk.specs.declared.journal_super.JournalSuper.{JournalSuper}
use Rattle.o2_model.specs.Logs.{LoggedBlock, Transaction}

-- the 12 bytes with which a block of the log begins, of this type and in the transaction of this number
abbrev pub header_bytes : ℕ → ℕ → List ℕ
header_bytes type sequence = big_bytes 4 0xc03b_3998 ++ big_bytes 4 type ++ big_bytes 4 sequence

-- a tag of this block, of 8 bytes, with these flags
abbrev pub tag_bytes : ℕ → ℕ → List ℕ
tag_bytes block flags = big_bytes 4 block ++ big_bytes 2 0 ++ big_bytes 2 flags

-- the identifier behind the first tag of a descriptor
abbrev pub identifier : List ℕ
identifier = 1 ∷ 2 ∷ 3 ∷ 4 ∷ 5 ∷ 6 ∷ 7 ∷ 8 ∷ 9 ∷ 10 ∷ 11 ∷ 12 ∷ 13 ∷ 14 ∷ 15 ∷ 16 ∷ []

-- a descriptor with one tag, of this block, which is the last (8) and without an identifier (2)
abbrev pub one_tag_of : ℕ → ℕ → List ℕ
one_tag_of block sequence = header_bytes 1 sequence ++ tag_bytes block 0xa

-- the same of block 7
abbrev pub one_tag : ℕ → List ℕ
one_tag sequence = one_tag_of 7 sequence

-- a descriptor with a tag of block 7 and its identifier, and then the last, of block 8, whose block is escaped (1)
abbrev pub two_tags : ℕ → List ℕ
two_tags sequence = header_bytes 1 sequence ++ tag_bytes 7 0 ++ identifier ++ tag_bytes 8 0xb

-- a block that revokes this block, with 20 bytes in use
abbrev pub revoke_of : ℕ → ℕ → List ℕ
revoke_of block sequence = header_bytes 5 sequence ++ big_bytes 4 20 ++ big_bytes 4 block

-- the same of block 7
abbrev pub revoke : ℕ → List ℕ
revoke sequence = revoke_of 7 sequence

abbrev pub commit : ℕ → List ℕ
commit sequence = header_bytes 2 sequence

-- a write of this block, whose one byte is the block's number
abbrev pub write_of : ℕ → LoggedBlock
write_of block = record { block = block; bytes = block ∷ [] }

-- a transaction that writes these blocks and revokes those
abbrev pub telling : List ℕ → List ℕ → Transaction
telling written revoked = record { writes = map write_of written; revoked = revoked }

-- a superblock of a journal whose log has these bounds and begins at this block
abbrev pub bounds : ℕ → ℕ → ℕ → JournalSuper
bounds first maxlen start = record {
  magic = 0xc03b_3998;
  blocktype = 4;
  blocksize = 512;
  maxlen = maxlen;
  first = first;
  sequence = 9;
  start = start;
  feature_compat = 0;
  feature_incompat = 0;
  feature_ro_compat = 0;
  nr_users = 1;
}
