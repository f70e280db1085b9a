-- BACKUP_SUPER, number 40, at the backup: its signature, generation, clusters, features, root, system directory, first group,
-- sizes, slots, label and identifier are those of the superblock.
use Rattle.std.specs.Prelude.{ℕ, ◌*◌, Bool, ◌&&◌, ◌==◌, List, map, drop, bytes_eq}
use Rattle.o2_ondisk.specs.Dinodes.{last_part_place}
use Rattle.o2_ondisk.specs.Super.{super_of}
use Rattle.o2_ondisk.specs.declared.superblock.Super.{Super}
use Rattle.o2_model.specs.Faults.{fails_at}
use Rattle.o2_model.specs.Volume.{Volume, per_cluster, dinode}
use Rattle.o2_model.specs.ClusterGroups.{backup_clusters}

-- the superblock's part of a block (struct ocfs2_super_block)
abbrev pub super_part : Volume → ℕ → Super
super_part v b = super_of (drop last_part_place (v.at b))

abbrev pub has_same_features : Super → Super → Bool
has_same_features s t =
    s.feature_compat == t.feature_compat && s.feature_incompat == t.feature_incompat && s.feature_ro_compat == t.feature_ro_compat

abbrev pub has_same_places : Super → Super → Bool
has_same_places s t =
    s.root_blkno == t.root_blkno && s.system_dir_blkno == t.system_dir_blkno && s.first_cluster_group == t.first_cluster_group

abbrev pub has_same_numbers : Super → Super → Bool
has_same_numbers s t =
    s.blocksize_bits == t.blocksize_bits && s.clustersize_bits == t.clustersize_bits && s.max_slots == t.max_slots

-- the block has the signature, the generation, the clusters and the super's part of block 2
unfoldable pub is_backup : Volume → ℕ → Bool
is_backup v b =
    (dinode v b).signature.0 == (dinode v 2).signature.0
    && (dinode v b).fs_generation == (dinode v 2).fs_generation
    && (dinode v b).clusters == (dinode v 2).clusters
    && has_same_features (super_part v b) (super_part v 2)
    && has_same_places (super_part v b) (super_part v 2)
    && has_same_numbers (super_part v b) (super_part v 2)
    && bytes_eq (super_part v b).label (super_part v 2).label
    && bytes_eq (super_part v b).uuid (super_part v 2).uuid

-- the blocks of the backups
abbrev pub backup_blocks : Volume → List ℕ
backup_blocks v = map (λ c. c * per_cluster v) (backup_clusters v)

abbrev pub backup_super_faults : Volume → List ℕ
backup_super_faults v = fails_at (λ b. b) (is_backup v) (backup_blocks v)
