-- Whole volumes that have more than the first one: in cluster 15, which is free there, or in block 44, which no extent block is in.
-- Nothing fails on them either.
use Rattle.std.specs.Prelude.{ℕ, ◌+◌, ◌==◌, nat_lt, List, [], ◌∷◌, ◌++◌, codes, if◌then◌else◌}
use Rattle.byteorder.specs.Endian.{little_bytes}
use Rattle.o2_ondisk.specs.Fields.{put_at}
use Rattle.o2_ondisk.specs.Signatures.{extent_block_signature, dx_root_signature, dx_leaf_signature, refcount_block_signature}
use Rattle.o2_ondisk.specs.declared.extent_rec.ExtentRec.{ExtentRec}
use Rattle.o2_model.specs.Volume.{Volume}
use Rattle.o2_cases_volumes.specs.SmallBytes.{zero_bytes}
use Rattle.o2_cases_volumes.specs.SmallEntries.{dots, named_bytes, void_bytes}
use Rattle.o2_cases_volumes.specs.SmallFiles.{one_record, record_of, record_bytes}
use Rattle.o2_cases_volumes.specs.WholeInodes.{plain_dinode, dinode_with, own_dinode, allocator_dinode, totals, inline_directory, inline_entries, chain, whole_system_entries}
use Rattle.o2_cases_volumes.specs.WholeVolume.{volume_with, with_number_at, whole_block, whole_group, index_entry, trailer_bytes, filled}

-- ---- parts
-- these blocks where cluster 15 is in use, and counted so
abbrev pub with_cluster : (ℕ → List ℕ) → ℕ → List ℕ
with_cluster blocks =
    with_number_at 8 0x41 1 0xff (with_number_at 8 0xc 2 0 (with_number_at 19 0xb8 4 16 (with_number_at 19 0xd0 4 0 blocks)))

-- these blocks where block 44 is in use, on bit 4 of its group, and counted so
abbrev pub with_fifth_block : (ℕ → List ℕ) → ℕ → List ℕ
with_fifth_block blocks =
    with_number_at 40 0x40 1 0x1f (with_number_at 40 0xc 2 3 (with_number_at 23 0xb8 4 5 (with_number_at 23 0xd0 4 3 blocks)))

-- these blocks where blocks 44 and 45 are in use, on bits 4 and 5 of their group, and counted so
abbrev pub with_sixth_block : (ℕ → List ℕ) → ℕ → List ℕ
with_sixth_block blocks =
    with_number_at 40 0x40 1 0x3f (with_number_at 40 0xc 2 2 (with_number_at 23 0xb8 4 6 (with_number_at 23 0xd0 4 2 blocks)))

-- these blocks where block 34 has an inode, on bit 18 of its group, and is counted so
abbrev pub with_inode : (ℕ → List ℕ) → ℕ → List ℕ
with_inode blocks =
    with_number_at 16 0x42 1 0x07 (with_number_at 16 0xc 2 5 (with_number_at 20 0xb8 4 19 (with_number_at 20 0xd0 4 5 blocks)))

-- one block is another one
abbrev pub in_place_of : ℕ → List ℕ → (ℕ → List ℕ) → ℕ → List ℕ
in_place_of block bytes blocks b = if b == block then bytes else blocks b

-- these blocks with this number of `width` bytes at this place of one of them, as a volume
abbrev pub changed : (ℕ → List ℕ) → ℕ → ℕ → ℕ → ℕ → Volume
changed blocks block at width number = volume_with (with_number_at block at width number blocks)

-- a list of this depth with two records, of 19 that fit
abbrev pub two_records : ℕ → ExtentRec → ExtentRec → List ℕ
two_records depth r s = little_bytes 2 depth ++ little_bytes 2 19 ++ little_bytes 2 2 ++ zero_bytes 10 ++ record_bytes r ++ record_bytes s

-- ---- trees of extents
-- an extent block on this bit of the group in block 40, followed by this leaf block, with a list of this depth and one record
abbrev pub extent_block_at : ℕ → ℕ → ℕ → ExtentRec → List ℕ
extent_block_at bit next depth r =
    little_bytes 8 extent_block_signature ++ zero_bytes 8 ++ little_bytes 2 0 ++ little_bytes 2 bit ++ little_bytes 4 5
    ++ little_bytes 8 (40 + bit) ++ zero_bytes 8 ++ little_bytes 8 next
    ++ little_bytes 2 depth ++ little_bytes 2 28 ++ little_bytes 2 1 ++ zero_bytes 10 ++ record_bytes r

-- Each record of file 29 stands in an extent block of its own, 41 and 44.
abbrev pub two_leaf_blocks : ℕ → List ℕ
two_leaf_blocks =
    with_fifth_block
    (in_place_of 29 (dinode_with (record (plain_dinode 29) { links_count = 2; clusters = 2; size = 12288; last_eb_blk = 44 }) (two_records 1 (record_of 0 2 0 41) (record_of 2 1 0 44)))
    (in_place_of 41 (extent_block_at 1 44 0 (record_of 0 1 0 80))
    (in_place_of 44 (extent_block_at 4 0 0 (record_of 2 1 0 104))
    whole_block)))

-- The list of file 29 names block 44, whose list names block 41, where the records are.
abbrev pub deep_blocks : ℕ → List ℕ
deep_blocks =
    with_fifth_block
    (with_number_at 29 0xc0 2 2 (with_number_at 29 0xd8 8 44
    (in_place_of 44 (extent_block_at 4 0 1 (record_of 0 3 0 41))
    whole_block)))

-- The text of the link stands in cluster 15.
abbrev pub long_link_blocks : ℕ → List ℕ
long_link_blocks =
    with_cluster
    (in_place_of 33 (dinode_with (record (plain_dinode 33) { mode = 0o120777; links_count = 1; size = 1; clusters = 1 }) (one_record (record_of 0 1 0 120)))
    whole_block)

-- ---- the system directory
-- with an entry more of this inode and name
abbrev pub with_system_entry : ℕ → List ℕ → (ℕ → List ℕ) → ℕ → List ℕ
with_system_entry inode name blocks =
    in_place_of 17 (dinode_with (inline_directory (own_dinode 17 0) 312) (inline_entries (whole_system_entries ++ named_bytes inode 28 1 name))) blocks

-- with an entry more of this name, of a file in block 34 with these flags
abbrev pub with_system_file : List ℕ → ℕ → ℕ → List ℕ
with_system_file name flags = with_inode (in_place_of 34 (dinode_with (own_dinode 34 flags) []) (with_system_entry 34 name whole_block))

-- Its entries stand in block 120. The last one begins byte 252 and goes to the block's end.
abbrev pub directory_in_cluster : List ℕ
directory_in_cluster =
    dinode_with (record (inline_directory (own_dinode 17 0) 512) { clusters = 1; dyn_features = record { 0 = 0 } }) (one_record (record_of 0 1 0 120))

abbrev pub directory_block : List ℕ
directory_block = put_at 260 2 260 (filled whole_system_entries)

-- these blocks where the system directory stands in block 120, with these bytes
abbrev pub with_directory_block : List ℕ → (ℕ → List ℕ) → ℕ → List ℕ
with_directory_block bytes blocks = with_cluster (in_place_of 17 directory_in_cluster (in_place_of 120 bytes blocks))

abbrev pub directory_blocks : (ℕ → List ℕ) → ℕ → List ℕ
directory_blocks blocks = with_directory_block directory_block blocks

-- ---- allocators
-- A second chain of inodes, with a group of 8 in cluster 15.
abbrev pub two_chain_blocks : ℕ → List ℕ
two_chain_blocks =
    with_cluster
    (in_place_of 20 (dinode_with (allocator_dinode 20 4 19 32)
    (little_bytes 2 3 ++ little_bytes 2 8 ++ little_bytes 2 2 ++ little_bytes 2 2 ++ zero_bytes 8 ++ chain 6 24 16 ++ chain 7 8 120))
    (with_number_at 120 0xe 2 1
    (in_place_of 120 (whole_group 120 20 8 7 (0x01 ∷ []))
    whole_block)))

-- The chains tell 0xc000_0000 and 0xc000_0001 bits, of which 0xc000_0000 each are clear: one is in use.
abbrev pub large_total_blocks : ℕ → List ℕ
large_total_blocks =
    with_number_at 20 0xb8 4 1 (with_number_at 20 0xbc 4 0x8000_0001
    (with_number_at 20 0xd0 4 0xc000_0000 (with_number_at 20 0xd4 4 0xc000_0000
    (with_number_at 20 0xe0 4 0xc000_0000 (with_number_at 20 0xe4 4 0xc000_0001
    two_chain_blocks)))))

-- ---- indexes and directories
-- a leaf of an index in this block, with so many entries
abbrev pub index_leaf : ℕ → ℕ → List ℕ → List ℕ
index_leaf block used entries =
    little_bytes 8 dx_leaf_signature ++ zero_bytes 8 ++ little_bytes 8 block ++ little_bytes 4 5 ++ zero_bytes 16
    ++ little_bytes 2 29 ++ little_bytes 2 used ++ entries

-- The index of directory 28 stands in the leaves of cluster 15: the dots in block 120, the entry of `h` in block 121.
abbrev pub leaf_index_blocks : ℕ → List ℕ
leaf_index_blocks =
    with_cluster
    (with_number_at 43 0x2c 1 0
    (in_place_of 120 (index_leaf 120 2 (index_entry 0 0 72 ++ index_entry 0 0 72))
    (in_place_of 121 (index_leaf 121 1 (index_entry 0xe97f8bba 0xf0a7cad4 72))
    (λ b.
    if b == 43 then put_at 0xc0 8 0x1_0013_0000 (put_at 0xd0 8 0x1_0000_0000 (put_at 0xd8 8 120 (filled (whole_block 43))))
    else if nat_lt 121 b then (if nat_lt b 128 then index_leaf b 0 [] else [])
    else whole_block b))))

-- The list in its root names block 44, an extent block with the record of cluster 15.
abbrev pub deep_index_blocks : ℕ → List ℕ
deep_index_blocks =
    with_fifth_block
    (with_number_at 43 0xc0 2 1 (with_number_at 43 0xd8 8 44
    (in_place_of 44 (extent_block_at 4 0 0 (record_of 0 1 0 120))
    leaf_index_blocks)))

-- Directories 28 and 34 have no entries, and the indexes of both tell cluster 15 as theirs.
abbrev pub two_index_blocks : ℕ → List ℕ
two_index_blocks =
    with_inode
    (with_fifth_block
    (in_place_of 34 (dinode_with (record (inline_directory (plain_dinode 34) 76) { dyn_features = record { 0 = 0x9 }; dx_root = 44 }) (inline_entries (void_bytes 12 ++ trailer_bytes)))
    (in_place_of 44
    (little_bytes 8 dx_root_signature ++ zero_bytes 8 ++ little_bytes 2 0 ++ little_bytes 2 4 ++ little_bytes 4 5 ++ little_bytes 8 44
    ++ zero_bytes 16 ++ little_bytes 8 34 ++ zero_bytes 136 ++ one_record (record_of 0 1 0 120))
    (in_place_of 72 (void_bytes 448 ++ zero_bytes 436 ++ trailer_bytes)
    (in_place_of 120 (index_leaf 120 0 [])
    (in_place_of 121 (index_leaf 121 0 [])
    (with_number_at 43 0x38 4 0 leaf_index_blocks)))))))

-- Directory 28 has a second block, whose one entry is a name of file 30 with a byte that is not ASCII; its index entry has no hash.
abbrev pub two_directory_blocks : ℕ → List ℕ
two_directory_blocks =
    with_number_at 28 0x20 8 1024
    (with_number_at 30 0x2a 2 2
    (with_number_at 43 0x38 4 4 (with_number_at 43 0xc6 2 4 (with_number_at 43 0x100 8 73
    (in_place_of 73 (named_bytes 30 448 1 (0xe9 ∷ []) ++ trailer_bytes)
    whole_block)))))

-- Inode 33 is a directory, which the root names `l` and directory 28 names `h`.
abbrev pub upper_and_lower_name : ℕ → List ℕ
upper_and_lower_name =
    in_place_of 33 (dinode_with (record (inline_directory (plain_dinode 33) 32) { links_count = 3 }) (inline_entries (dots 33 18)))
    (with_number_at 18 0x2a 2 4 (with_number_at 18 307 1 2
    (with_number_at 72 32 8 33 (with_number_at 72 43 1 2
    (with_number_at 29 0x2a 2 1
    whole_block)))))

-- Directory 28 has the eight blocks of cluster 9, and behind a hole of one cluster the first two of cluster 15.
abbrev pub far_directory_blocks : ℕ → List ℕ
far_directory_blocks =
    with_number_at 28 0x20 8 9216
    (with_number_at 28 0xc4 2 2 (with_number_at 28 0xe0 8 0x1_0000_0002 (with_number_at 28 0xe8 8 120 whole_block)))

-- two entries of inode 32 in the orphan directory
abbrev pub two_orphan_entries : ℕ → List ℕ
two_orphan_entries =
    with_number_at 22 0x20 8 64 (with_number_at 22 248 8 32 (with_number_at 22 256 2 16 (with_number_at 22 258 2 0x101 (with_number_at 22 260 1 0x70 whole_block))))

-- The orphan directory names inode 34 as well.
abbrev pub two_orphans : ℕ → List ℕ
two_orphans =
    with_inode
    (in_place_of 34 (dinode_with (record (plain_dinode 34) { flags = record { 0 = 0x5 } }) [])
    (with_number_at 22 248 8 34 two_orphan_entries))

-- ---- refcount trees
-- The root in block 42 names one leaf block, 44, which has the record.
abbrev pub leaf_refcount_blocks : ℕ → List ℕ
leaf_refcount_blocks =
    with_fifth_block
    (with_number_at 42 0x34 1 2 (with_number_at 42 0x80 8 0x1_0017_0000
    (with_number_at 42 0x90 8 0x1_0000_0000 (with_number_at 42 0x98 8 44
    (in_place_of 44 (little_bytes 8 refcount_block_signature ++ little_bytes 2 0 ++ little_bytes 2 4 ++ little_bytes 4 5 ++ little_bytes 8 44
    ++ zero_bytes 28 ++ 1 ∷ zero_bytes 75
    ++ little_bytes 2 23 ++ little_bytes 2 1 ++ zero_bytes 12
    ++ little_bytes 8 11 ++ little_bytes 4 1 ++ little_bytes 4 2)
    whole_block)))))

-- The list of the root names block 45, an extent block whose list names the leaf block.
abbrev pub deep_refcount_blocks : ℕ → List ℕ
deep_refcount_blocks =
    with_sixth_block
    (with_number_at 42 0x28 8 45 (with_number_at 42 0x80 2 1 (with_number_at 42 0x98 8 45
    (in_place_of 45 (extent_block_at 5 0 0 (record_of 0 1 0 44))
    leaf_refcount_blocks))))

-- ---- a second slot
-- its local alloc in block 34, with a window of this one cluster
abbrev pub second_window : ℕ → ℕ → List ℕ
second_window cluster =
    with_system_entry 34 (codes "local_alloc:0001")
    (in_place_of 34 (dinode_with (record (own_dinode 34 0xc0) { role_data = record { 0 = totals 0 1 } }) (little_bytes 4 cluster ++ little_bytes 2 304))
    whole_block)

-- its truncate log in block 34, with a record of this one cluster; the system directory is in block 120
abbrev pub second_truncate_log : ℕ → (ℕ → List ℕ) → ℕ → List ℕ
second_truncate_log cluster blocks =
    with_directory_block (whole_system_entries ++ named_bytes 34 228 1 (codes "truncate_log:0001"))
    (in_place_of 34 (dinode_with (own_dinode 34 0x800) (little_bytes 2 39 ++ little_bytes 2 1 ++ zero_bytes 4 ++ little_bytes 4 cluster ++ little_bytes 4 1))
    blocks)
