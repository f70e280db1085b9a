-- The inodes of a whole volume: the volume's own in blocks 17 to 27, the users' in blocks 28 to 33.
use Rattle.std.specs.Prelude.{ℕ, ◌+◌, ◌-◌, ◌*◌, ◌^◌, List, ◌++◌, codes}
use Rattle.byteorder.specs.Endian.{little_bytes}
use Rattle.o2_ondisk.specs.Dinodes.{dinode_fields, dinode_numbers}
use Rattle.o2_ondisk.specs.Fields.{put_all}
use Rattle.o2_ondisk.specs.Signatures.{inode_signature}
use Rattle.o2_ondisk.specs.declared.dinode.Dinode.{Dinode}
use Rattle.o2_cases_volumes.specs.SmallBytes.{zero_bytes}
use Rattle.o2_cases_volumes.specs.SmallEntries.{dots, named_bytes}

-- ---- parts
-- the dinode of a file without clusters and links in this block, which has its bit in the group that begins block 16
abbrev pub plain_dinode : ℕ → Dinode
plain_dinode block = record {
  signature = record { 0 = inode_signature };
  generation = 0;
  suballoc_slot = 0xffff;
  suballoc_bit = block - 16;
  links_count_hi = 0;
  xattr_inline_size = 0;
  clusters = 0;
  uid = 0;
  gid = 0;
  size = 0;
  mode = 0o100644;
  links_count = 0;
  flags = record { 0 = 0x1 };
  atime = 0;
  ctime = 0;
  mtime = 0;
  dtime = 0;
  blkno = block;
  last_eb_blk = 0;
  fs_generation = 5;
  atime_nsec = 0;
  ctime_nsec = 0;
  mtime_nsec = 0;
  attr = 0;
  orphaned_slot = 0;
  dyn_features = record { 0 = 0 };
  xattr_loc = 0;
  check = 0;
  dx_root = 0;
  refcount_loc = 0;
  suballoc_loc = 0;
  role_data = record { 0 = 0 };
}

-- its bytes, with these behind it
abbrev pub dinode_with : Dinode → List ℕ → List ℕ
dinode_with d tail = put_all dinode_fields (dinode_numbers d) (zero_bytes 192) ++ tail

-- i_used and i_total of an allocator or a window
abbrev pub totals : ℕ → ℕ → ℕ
totals used total = used + 2 ^ 32 * total

-- a directory whose entries stand in its dinode, which has room for 312 bytes of them
abbrev pub inline_entries : List ℕ → List ℕ
inline_entries entries = little_bytes 2 312 ++ zero_bytes 6 ++ entries

-- a chain list of groups of so many clusters (cl_cpg) and blocks in a cluster (cl_bpc), with room for one chain and these chains
abbrev pub chain_list : ℕ → ℕ → ℕ → List ℕ → List ℕ
chain_list cpg bpc used chains = little_bytes 2 cpg ++ little_bytes 2 bpc ++ little_bytes 2 1 ++ little_bytes 2 used ++ zero_bytes 8 ++ chains

-- a chain with so many clear bits of so many, which begins with the group in this block
abbrev pub chain : ℕ → ℕ → ℕ → List ℕ
chain free total head = little_bytes 4 free ++ little_bytes 4 total ++ little_bytes 8 head

-- ---- the volume's own
-- an entry of a directory for each of its files
abbrev pub whole_system_entries : List ℕ
whole_system_entries =
    dots 17 17
    ++ named_bytes 19 28 1 (codes "global_bitmap")
    ++ named_bytes 20 32 1 (codes "global_inode_alloc")
    ++ named_bytes 21 20 1 (codes "slot_map")
    ++ named_bytes 22 28 2 (codes "orphan_dir:0000")
    ++ named_bytes 23 32 1 (codes "extent_alloc:0000")
    ++ named_bytes 24 28 1 (codes "inode_alloc:0000")
    ++ named_bytes 25 24 1 (codes "journal:0000")
    ++ named_bytes 26 28 1 (codes "local_alloc:0000")
    ++ named_bytes 27 32 1 (codes "truncate_log:0000")

-- the dinode of one of its own files, with these flags beside VALID and SYSTEM
abbrev pub own_dinode : ℕ → ℕ → Dinode
own_dinode block flags = record (plain_dinode block) { links_count = 1; flags = record { 0 = 0x11 + flags } }

-- an allocator (CHAIN and BITMAP) of so many clusters, with so many bits in use of so many
abbrev pub allocator_dinode : ℕ → ℕ → ℕ → ℕ → Dinode
allocator_dinode block clusters used total = record (own_dinode block 0x480) { clusters = clusters; role_data = record { 0 = totals used total } }

-- a file with one cluster
abbrev pub one_cluster : Dinode → Dinode
one_cluster d = record d { clusters = 1; size = 4096 }

-- a directory whose entries stand in its dinode, with so many bytes of them
abbrev pub inline_directory : Dinode → ℕ → Dinode
inline_directory d size = record d { mode = 0o40755; links_count = 2; size = size; dyn_features = record { 0 = 0x1 } }
