-- What stands on a volume that is outside the profile.
use Rattle.std.specs.Prelude.{ℕ, Bool, ◌&&◌, ◌==◌, nat_lt, List, ◌++◌, map, filter, drop, Option}
use Rattle.o2_ondisk.specs.Bits.{has_bits, has_xattr_dyn_feature, dio_orphaned_inode_flag}
use Rattle.o2_ondisk.specs.ExtentListHeaders.{extent_list_header_of}
use Rattle.o2_model.specs.declared.oddity.Oddity.{Oddity}
use Rattle.o2_model.specs.declared.oddity.Oddity.TheVariants.{DiscontiguousGroup, Attributes, DioOrphan}
use Rattle.o2_model.specs.Orders.{rising, first_of}
use Rattle.o2_model.specs.Volume.{Volume, dinode}
use Rattle.o2_model.specs.Groups.{groups, group_desc, inodes_of}

-- the group has a bitmap of 256 bytes (OCFS2_MAX_BG_BITMAP_SIZE), and a list of extents in use behind it (bg_list)
unfoldable pub is_discontiguous : Volume → ℕ → Bool
is_discontiguous v b = (group_desc v b).size == 256 && nat_lt 0 (extent_list_header_of (drop 0x140 (v.at b))).next_free_rec

abbrev pub discontiguous_groups : Volume → List ℕ
discontiguous_groups v = filter (is_discontiguous v) (rising (map (λ g. g.block) (groups v)))

-- the inodes with `OCFS2_HAS_XATTR_FL` of i_dyn_features
abbrev pub inodes_with_attributes : Volume → List ℕ
inodes_with_attributes v = filter (λ b. has_bits (dinode v b).dyn_features.0 has_xattr_dyn_feature) (inodes_of v)

-- the inodes with `OCFS2_DIO_ORPHANED_FL` of i_flags
abbrev pub direct_write_orphans : Volume → List ℕ
direct_write_orphans v = filter (λ b. has_bits (dinode v b).flags.0 dio_orphaned_inode_flag) (inodes_of v)

-- each of these blocks for that reason
abbrev pub each_for : Oddity → List ℕ → List (Oddity × ℕ)
each_for reason blocks = map (λ b. (reason, b)) blocks

-- The first group or inode that is not supported: the least discontiguous group, else the least inode with attributes, else the
-- least orphan of a direct write.
unfoldable pub unsupported_structure : Volume → Option (Oddity × ℕ)
unsupported_structure v =
    first_of (each_for DiscontiguousGroup (discontiguous_groups v) ++ each_for Attributes (inodes_with_attributes v) ++ each_for DioOrphan (direct_write_orphans v))
