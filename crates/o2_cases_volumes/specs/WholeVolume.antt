-- A whole volume of 16 clusters of 8 blocks, on which every check holds. Its clusters:
--
--     0 superblock        4 (inodes)          8 orphan 32         12 truncate record
--     1 bitmap's group    5 extent blocks     9 directory 28      13 file 29
--     2 inodes            6 slot map          10 file 29          14 window, free
--     3 (inodes)          7 journal           11 files 30, 31     15 free
use Rattle.std.specs.Prelude.{ℕ, ◌-◌, ◌==◌, List, [], ◌∷◌, ◌++◌, codes, length, nat_lt, replicate, if◌then◌else◌}
use Rattle.byteorder.specs.Endian.{little_bytes, big_bytes}
use Rattle.o2_ondisk.specs.Fields.{put_at, put_all}
use Rattle.o2_ondisk.specs.Signatures.{superblock_signature, group_signature, extent_block_signature, dx_root_signature, refcount_block_signature, dir_trailer_signature}
use Rattle.o2_ondisk.specs.GroupDescs.{group_desc_fields, group_desc_numbers}
use Rattle.o2_model.specs.declared.geo.Geo.{Geo}
use Rattle.o2_model.specs.Volume.{Volume}
use Rattle.o2_cases_volumes.specs.SmallBytes.{zero_bytes}
use Rattle.o2_cases_volumes.specs.SmallEntries.{dots, named_bytes}
use Rattle.o2_cases_volumes.specs.SmallFiles.{one_record, record_of, record_bytes}
use Rattle.o2_cases_volumes.specs.SmallLogs.{header_bytes}
use Rattle.o2_cases_volumes.specs.WholeInodes.{plain_dinode, dinode_with, own_dinode, allocator_dinode, one_cluster, inline_directory, inline_entries, chain_list, chain, totals, whole_system_entries}

-- ---- structures
-- the superblock: its dinode, the sizes, the first group, and the seed of hashes
abbrev pub whole_super : List ℕ
whole_super =
    put_at 0xe0 4 0x1550
    (put_at 0xe8 8 18
    (put_at 0xf0 8 17
    (put_at 0xf8 4 9
    (put_at 0xfc 4 12
    (put_at 0x100 2 1
    (put_at 0x108 8 8
    (put_at 0x17c 4 1
    (put_at 0x180 4 2
    (put_at 0x184 4 3
    (dinode_with (record (plain_dinode 2) { signature = record { 0 = superblock_signature }; clusters = 16; flags = record { 0 = 0x31 } }) (zero_bytes 320)))))))))))

-- the descriptor of a group of this allocator with so many bits, so many of them clear, and its bitmap
abbrev pub whole_group : ℕ → ℕ → ℕ → ℕ → List ℕ → List ℕ
whole_group block allocator bits free bitmap =
    put_all group_desc_fields (group_desc_numbers (record {
      signature = record { 0 = group_signature };
      size = 448;
      bits = bits;
      free_bits_count = free;
      chain = 0;
      generation = 5;
      next_group = 0;
      parent_dinode = allocator;
      blkno = block;
    })) (zero_bytes 64)
    ++ bitmap

-- the extent block of file 29, with two clusters and a hole of one between them
abbrev pub whole_extent_block : List ℕ
whole_extent_block =
    little_bytes 8 extent_block_signature ++ zero_bytes 8 ++ little_bytes 2 0 ++ little_bytes 2 1 ++ little_bytes 4 5 ++ little_bytes 8 41
    ++ zero_bytes 16
    ++ little_bytes 2 0 ++ little_bytes 2 28 ++ little_bytes 2 2 ++ zero_bytes 10
    ++ record_bytes (record_of 0 1 0 80) ++ record_bytes (record_of 2 1 0 104)

-- the refcount tree of files 30 and 31, in one block
abbrev pub whole_refcount_block : List ℕ
whole_refcount_block =
    little_bytes 8 refcount_block_signature ++ little_bytes 2 0 ++ little_bytes 2 2 ++ little_bytes 4 5 ++ little_bytes 8 42
    ++ zero_bytes 24 ++ little_bytes 4 2 ++ zero_bytes 76
    ++ little_bytes 2 23 ++ little_bytes 2 1 ++ zero_bytes 12
    ++ little_bytes 8 11 ++ little_bytes 4 1 ++ little_bytes 4 2

-- an entry of an index: a hash, and the directory's block
abbrev pub index_entry : ℕ → ℕ → ℕ → List ℕ
index_entry major minor block = little_bytes 4 major ++ little_bytes 4 minor ++ little_bytes 8 block

-- the index of directory 28, whose entries stand in the root
abbrev pub whole_index_root : List ℕ
whole_index_root =
    little_bytes 8 dx_root_signature ++ zero_bytes 8 ++ little_bytes 2 0 ++ little_bytes 2 3 ++ little_bytes 4 5 ++ little_bytes 8 43
    ++ zero_bytes 12 ++ 1 ∷ 0 ∷ 0 ∷ 0 ∷ little_bytes 8 28 ++ little_bytes 8 3 ++ zero_bytes 128
    ++ zero_bytes 4 ++ little_bytes 2 19 ++ little_bytes 2 3
    ++ index_entry 0 0 72 ++ index_entry 0 0 72 ++ index_entry 0xe97f8bba 0xf0a7cad4 72

-- the trailer of a block of an indexed directory
abbrev pub trailer_bytes : List ℕ
trailer_bytes = little_bytes 8 0 ++ little_bytes 2 64 ++ zero_bytes 6 ++ little_bytes 8 dir_trailer_signature ++ zero_bytes 40

-- the one block of directory 28: the dots, a name of file 29, and the trailer
abbrev pub whole_directory_block : List ℕ
whole_directory_block = dots 28 18 ++ named_bytes 29 416 1 (codes "h") ++ trailer_bytes

-- the superblock of a journal of 8 blocks, whose log begins this block of it (s_start)
abbrev pub whole_journal_super : ℕ → List ℕ
whole_journal_super start =
    header_bytes 4 0 ++ big_bytes 4 512 ++ big_bytes 4 8 ++ big_bytes 4 1 ++ big_bytes 4 9 ++ big_bytes 4 start ++ zero_bytes 36

-- ---- the volume
abbrev pub whole_block : ℕ → List ℕ
whole_block b =
    if b == 2 then whole_super
    else if b == 8 then whole_group 8 19 16 1 (0xff ∷ 0x7f ∷ [])
    else if b == 16 then whole_group 16 20 24 6 (0xff ∷ 0xff ∷ 0x03 ∷ [])
    else if b == 17 then dinode_with (inline_directory (own_dinode 17 0) 284) (inline_entries whole_system_entries)
    else if b == 18 then dinode_with (record (inline_directory (plain_dinode 18) 112) { links_count = 3 })
    (inline_entries (dots 18 18
    ++ named_bytes 28 16 2 (codes "d") ++ named_bytes 29 16 1 (codes "f") ++ named_bytes 30 16 1 (codes "a")
    ++ named_bytes 31 16 1 (codes "b") ++ named_bytes 33 16 7 (codes "l")))
    else if b == 19 then dinode_with (allocator_dinode 19 16 15 16) (chain_list 3584 1 1 (chain 1 16 8))
    else if b == 20 then dinode_with (allocator_dinode 20 3 18 24) (chain_list 3 8 1 (chain 6 24 16))
    else if b == 21 then dinode_with (one_cluster (own_dinode 21 0)) (one_record (record_of 0 1 0 48))
    else if b == 22 then dinode_with (inline_directory (own_dinode 22 0) 48)
    (inline_entries (dots 22 22 ++ named_bytes 32 16 1 (codes "o")))
    else if b == 23 then dinode_with (allocator_dinode 23 1 4 8) (chain_list 1 8 1 (chain 4 8 40))
    else if b == 24 then dinode_with (allocator_dinode 24 0 0 0) (chain_list 2 8 0 [])
    else if b == 25 then dinode_with (one_cluster (own_dinode 25 0x100)) (one_record (record_of 0 1 0 56))
    else if b == 26 then dinode_with (record (own_dinode 26 0xc0) { role_data = record { 0 = totals 1 2 } })
    (little_bytes 4 13 ++ little_bytes 2 304 ++ zero_bytes 10 ++ 0x1 ∷ [])
    else if b == 27 then dinode_with (own_dinode 27 0x800) (little_bytes 2 39 ++ little_bytes 2 1 ++ zero_bytes 4 ++ little_bytes 4 12 ++ little_bytes 4 1)
    else if b == 28 then dinode_with (record (plain_dinode 28) { mode = 0o40755; links_count = 2; clusters = 1; size = 512; dyn_features = record { 0 = 0x8 }; dx_root = 43 })
    (one_record (record_of 0 1 0 72))
    else if b == 29 then dinode_with (record (plain_dinode 29) { links_count = 2; clusters = 2; size = 12288; last_eb_blk = 41 })
    (little_bytes 2 1 ++ little_bytes 2 19 ++ little_bytes 2 1 ++ zero_bytes 10 ++ record_bytes (record_of 0 3 0 41))
    else if b == 30 then dinode_with (record (plain_dinode 30) { links_count = 1; clusters = 1; size = 5; dyn_features = record { 0 = 0x10 }; refcount_loc = 42 })
    (one_record (record_of 0 1 2 88))
    else if b == 31 then dinode_with (record (plain_dinode 31) { links_count = 1; clusters = 1; size = 5; dyn_features = record { 0 = 0x10 }; refcount_loc = 42 })
    (one_record (record_of 0 1 2 88))
    else if b == 32 then dinode_with (record (one_cluster (plain_dinode 32)) { flags = record { 0 = 0x5 } }) (one_record (record_of 0 1 0 64))
    else if b == 33 then dinode_with (record (plain_dinode 33) { mode = 0o120777; links_count = 1; size = 1 }) (codes "f")
    else if b == 40 then whole_group 40 23 8 4 (0x0f ∷ [])
    else if b == 41 then whole_extent_block
    else if b == 42 then whole_refcount_block
    else if b == 43 then whole_index_root
    else if b == 56 then whole_journal_super 0
    else if b == 72 then whole_directory_block
    else if b == 88 then codes "hello"
    else []

-- a block of 512 bytes that begins with these, and is zero behind them
abbrev pub filled : List ℕ → List ℕ
filled bytes = bytes ++ replicate (512 - length bytes) 0

-- the blocks of a device of 128, each filled up; behind the last there are zeros
unfoldable pub on_device : (ℕ → List ℕ) → ℕ → List ℕ
on_device blocks b = filled (if nat_lt b 128 then blocks b else [])

abbrev pub whole_geo : Geo
whole_geo = record {
  block_bits = 9;
  cluster_bits = 12;
  clusters = 16;
  slots = 1;
  root = 18;
  sysdir = 17;
  first_group = 8;
  generation = 5;
  compat = 0;
  incompat = 0x1550;
  seed = record { first = 1; second = 2; third = 3 };
}

-- the volume with these blocks, of 16 clusters
abbrev pub volume_with : (ℕ → List ℕ) → Volume
volume_with blocks = record { geo = whole_geo; at = on_device blocks; on_device = 128 }

abbrev pub whole : Volume
whole = volume_with whole_block

-- these blocks with this number of `width` bytes at this place of one of them
abbrev pub with_number_at : ℕ → ℕ → ℕ → ℕ → (ℕ → List ℕ) → ℕ → List ℕ
with_number_at block at width number blocks b = if b == block then put_at at width number (filled (blocks b)) else blocks b

-- the whole volume with this number there
abbrev pub with_number : ℕ → ℕ → ℕ → ℕ → Volume
with_number block at width number = volume_with (with_number_at block at width number whole_block)
