-- SUPER, number 1, at block 2: it names its own block and is in use; a cluster has 4 KiB to 1 MiB; there are 1 to 255 slots; the
-- first group descriptor begins a cluster of the first group and of the volume, behind the superblock and in no backup; the
-- device has all blocks; the root and the system directory are two blocks of the volume.
use Rattle.std.specs.Prelude.{ℕ, ◌%◌, Bool, ◌&&◌, not, ◌==◌, nat_lt, nat_le, List}
use Rattle.o2_ondisk.specs.Bits.{has_bits, valid_inode_flag}
use Rattle.o2_model.specs.Words.{among}
use Rattle.o2_model.specs.Faults.{fails_unless}
use Rattle.o2_model.specs.Volume.{Volume, blocks, per_cluster, is_in_range, dinode}
use Rattle.o2_model.specs.Clusters.{cluster_of}
use Rattle.o2_model.specs.ClusterGroups.{group_size, backup_clusters}

-- block 2 is a dinode in use that names its own block
abbrev pub is_super_dinode : Volume → Bool
is_super_dinode v = (dinode v 2).blkno == 2 && has_bits (dinode v 2).flags.0 valid_inode_flag

-- a cluster has 4 KiB to 1 MiB, and there are slots, at most 255 (OCFS2_MAX_SLOTS)
abbrev pub has_sound_sizes : Volume → Bool
has_sound_sizes v =
    nat_le 12 v.geo.cluster_bits
    && nat_le v.geo.cluster_bits 20
    && nat_le 1 v.geo.slots
    && nat_le v.geo.slots 255

-- The first group descriptor begins a cluster behind the superblock. It is a cluster of the first group and of the volume,
-- and none of a backup.
abbrev pub has_sound_first_group : Volume → Bool
has_sound_first_group v =
    v.geo.first_group % per_cluster v == 0
    && nat_le 3 v.geo.first_group
    && nat_lt (cluster_of v v.geo.first_group) (group_size v)
    && nat_lt (cluster_of v v.geo.first_group) v.geo.clusters
    && not (among (backup_clusters v) (cluster_of v v.geo.first_group))

-- the root and the system directory are two blocks of the volume
abbrev pub has_sound_directories : Volume → Bool
has_sound_directories v =
    is_in_range v v.geo.root
    && is_in_range v v.geo.sysdir
    && not (v.geo.root == v.geo.sysdir)

-- the numbers fit one another and the device
abbrev pub has_sound_numbers : Volume → Bool
has_sound_numbers v =
    has_sound_sizes v
    && has_sound_first_group v
    && nat_le (blocks v) v.on_device
    && has_sound_directories v

unfoldable pub is_sound_super : Volume → Bool
is_sound_super v = is_super_dinode v && has_sound_numbers v

abbrev pub super_faults : Volume → List ℕ
super_faults v = fails_unless 2 (is_sound_super v)
