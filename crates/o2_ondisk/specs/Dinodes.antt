-- The fields of a dinode. Each place is written out here by itself, so that a place in the code that differs is refused.
use Rattle.std.specs.Prelude.{ℕ, List, [], ◌∷◌}
use Rattle.o2_ondisk.specs.Number.{number_at}
use Rattle.o2_ondisk.specs.Fields.{field}
use Rattle.o2_ondisk.specs.declared.layout.Field.{Field}
use Rattle.o2_ondisk.specs.declared.dinode.Dinode.{Dinode}

-- what the bytes say
abbrev pub dinode_of : List ℕ → Dinode
dinode_of block = record {
  signature = record { 0 = number_at 0x0 8 block };
  generation = number_at 0x8 4 block;
  suballoc_slot = number_at 0xc 2 block;
  suballoc_bit = number_at 0xe 2 block;
  links_count_hi = number_at 0x10 2 block;
  xattr_inline_size = number_at 0x12 2 block;
  clusters = number_at 0x14 4 block;
  uid = number_at 0x18 4 block;
  gid = number_at 0x1c 4 block;
  size = number_at 0x20 8 block;
  mode = number_at 0x28 2 block;
  links_count = number_at 0x2a 2 block;
  flags = record { 0 = number_at 0x2c 4 block };
  atime = number_at 0x30 8 block;
  ctime = number_at 0x38 8 block;
  mtime = number_at 0x40 8 block;
  dtime = number_at 0x48 8 block;
  blkno = number_at 0x50 8 block;
  last_eb_blk = number_at 0x58 8 block;
  fs_generation = number_at 0x60 4 block;
  atime_nsec = number_at 0x64 4 block;
  ctime_nsec = number_at 0x68 4 block;
  mtime_nsec = number_at 0x6c 4 block;
  attr = number_at 0x70 4 block;
  orphaned_slot = number_at 0x74 2 block;
  dyn_features = record { 0 = number_at 0x76 2 block };
  xattr_loc = number_at 0x78 8 block;
  check = number_at 0x80 8 block;
  dx_root = number_at 0x88 8 block;
  refcount_loc = number_at 0x90 8 block;
  suballoc_loc = number_at 0x98 8 block;
  role_data = record { 0 = number_at 0xb8 8 block };
}

-- all fields, in the order of their places
abbrev pub dinode_fields : List Field
dinode_fields =
    field 0x0 8 ∷ field 0x8 4 ∷ field 0xc 2 ∷ field 0xe 2 ∷ field 0x10 2 ∷ field 0x12 2 ∷ field 0x14 4
    ∷ field 0x18 4 ∷ field 0x1c 4 ∷ field 0x20 8 ∷ field 0x28 2 ∷ field 0x2a 2 ∷ field 0x2c 4 ∷ field 0x30 8
    ∷ field 0x38 8 ∷ field 0x40 8 ∷ field 0x48 8 ∷ field 0x50 8 ∷ field 0x58 8 ∷ field 0x60 4 ∷ field 0x64 4
    ∷ field 0x68 4 ∷ field 0x6c 4 ∷ field 0x70 4 ∷ field 0x74 2 ∷ field 0x76 2 ∷ field 0x78 8 ∷ field 0x80 8
    ∷ field 0x88 8 ∷ field 0x90 8 ∷ field 0x98 8 ∷ field 0xb8 8 ∷ []

-- their numbers, in the same order
abbrev pub dinode_numbers : Dinode → List ℕ
dinode_numbers x =
    x.signature.0 ∷ x.generation ∷ x.suballoc_slot ∷ x.suballoc_bit ∷ x.links_count_hi ∷ x.xattr_inline_size
    ∷ x.clusters ∷ x.uid ∷ x.gid ∷ x.size ∷ x.mode ∷ x.links_count ∷ x.flags.0 ∷ x.atime ∷ x.ctime ∷ x.mtime
    ∷ x.dtime ∷ x.blkno ∷ x.last_eb_blk ∷ x.fs_generation ∷ x.atime_nsec ∷ x.ctime_nsec ∷ x.mtime_nsec ∷ x.attr
    ∷ x.orphaned_slot ∷ x.dyn_features.0 ∷ x.xattr_loc ∷ x.check ∷ x.dx_root ∷ x.refcount_loc ∷ x.suballoc_loc
    ∷ x.role_data.0 ∷ []

-- where the flags of a journal stand (ij_flags), the first 4 bytes of the role's data
abbrev pub journal_flags_place : ℕ
journal_flags_place = 0xb8

-- ---- the last part (id2 of struct ocfs2_dinode)
-- where it begins; the superblock's part, lists, a link's text and the headers of logs stand there
abbrev pub last_part_place : ℕ
last_part_place = 0xc0

-- where inline data begins in it (id_data of struct ocfs2_inline_data), behind the number of its bytes
abbrev pub inline_data_place : ℕ
inline_data_place = 0xc8

-- where the records of an extent list or of a chain list begin in it (l_recs, cl_recs)
abbrev pub list_records_place : ℕ
list_records_place = 0xd0

-- where the bitmap of a window begins in it (la_bitmap)
abbrev pub window_bitmap_place : ℕ
window_bitmap_place = 0xd0

-- where the records of a truncate log begin in it (tl_recs)
abbrev pub truncate_records_place : ℕ
truncate_records_place = 0xc8
