-- What a user has on a volume, and what its size is, once its journals are replayed.
use Rattle.std.specs.Prelude.{ℕ, List, map, drop, Option}
use Rattle.std.specs.Option.{option_map, option_map_or}
use Rattle.std.specs.Ordering.{nat_cmp}
use Rattle.std.specs.FinMap as finite
use Rattle.o2_ondisk.specs.Dinodes.{last_part_place}
use Rattle.o2_ondisk.specs.Super.{super_of}
use Rattle.o2_ondisk.specs.declared.superblock.Super.{Super}
use Rattle.o2_disk.specs.Image.{Image}
use Rattle.o2_model.specs.Volume.{Volume, opened}
use Rattle.o2_model.specs.LeafRecords.{clusters_in}
use Rattle.o2_model.specs.Inodes.{leaf_records}
use Rattle.o2_model.specs.SystemFiles.{slots}
use Rattle.o2_model.specs.Tree.{path_cmp, tree_of}
use Rattle.o2_model.specs.Files.{File, files_of, shared_clusters}
use Rattle.o2_model.specs.Journals.{named_journal}
use Rattle.o2_model.specs.Replay.{replayed}

-- ---- what a user has
-- The inode at each path, each inode, and how often each shared cluster is referred to.
pub record VolumeContents : Type 0 where
  pub tree : finite.FinMap path_cmp ℕ
  pub files : finite.FinMap nat_cmp File
  pub sharing : finite.FinMap nat_cmp ℕ

abbrev pub volume_contents : Volume → VolumeContents
volume_contents v = record { tree = tree_of v; files = files_of v; sharing = shared_clusters v }

-- those of the replayed image, where there is a volume
abbrev pub contents_after_replay : Image → Option VolumeContents
contents_after_replay I = option_map volume_contents (opened (replayed I))

-- ---- its size
-- What a volume is made with, and what may be changed of it.
pub record VolumeGeometry : Type 0 where
  pub block_bits : ℕ
  pub cluster_bits : ℕ
  pub clusters : ℕ
  pub slots : ℕ
  -- 64 bytes, filled up with NUL
  pub label : List ℕ
  -- 16 bytes
  pub uuid : List ℕ
  -- the clusters of each slot's journal
  pub journals : List ℕ

-- the superblock's part of block 2 (struct ocfs2_super_block)
abbrev pub super_of_volume : Volume → Super
super_of_volume v = super_of (drop last_part_place (v.at 2))

-- the clusters of the slot's journal, none where there is no journal
abbrev pub journal_length : Volume → ℕ → ℕ
journal_length v slot = option_map_or (λ b. clusters_in (leaf_records v b)) (named_journal v slot) 0

abbrev pub geometry_of : Volume → VolumeGeometry
geometry_of v = record {
  block_bits = v.geo.block_bits;
  cluster_bits = v.geo.cluster_bits;
  clusters = v.geo.clusters;
  slots = v.geo.slots;
  label = (super_of_volume v).label;
  uuid = (super_of_volume v).uuid;
  journals = map (journal_length v) (slots v);
}

-- that of the replayed image, where there is a volume
abbrev pub geometry_after_replay : Image → Option VolumeGeometry
geometry_after_replay I = option_map geometry_of (opened (replayed I))
