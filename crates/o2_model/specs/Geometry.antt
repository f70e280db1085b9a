-- The numbers of a volume, as its superblock tells them.
use Rattle.std.specs.Prelude.{ℕ, ◌^◌, List, drop, Option}
use Rattle.std.specs.Option.{option_map}
use Rattle.o2_ondisk.specs.Dinodes.{dinode_of, last_part_place}
use Rattle.o2_ondisk.specs.Super.{super_of}
use Rattle.o2_ondisk.specs.declared.superblock.Super.{Super}
use Rattle.o2_disk.specs.Image.{Image, block_at}
use Rattle.o2_model.specs.Superblock.{superblock_bits}
use Rattle.o2_model.specs.declared.geo.Geo.{Geo}

-- those of a super's part and of two fields of the dinode around it, i_clusters and i_fs_generation
abbrev pub geometry_in : Super → ℕ → ℕ → Geo
geometry_in part clusters generation = record {
  block_bits = part.blocksize_bits;
  cluster_bits = part.clustersize_bits;
  clusters = clusters;
  slots = part.max_slots;
  root = part.root_blkno;
  sysdir = part.system_dir_blkno;
  first_group = part.first_cluster_group;
  generation = generation;
  compat = part.feature_compat;
  incompat = part.feature_incompat;
  seed = part.dx_seed;
}

-- those that the bytes of block 2 tell
abbrev pub geometry_in_block : List ℕ → Geo
geometry_in_block bytes = geometry_in (super_of (drop last_part_place bytes)) (dinode_of bytes).clusters (dinode_of bytes).fs_generation

-- those of the image where a block has 2 ^ bits bytes
abbrev pub geometry_at : Image → ℕ → Geo
geometry_at I bits = geometry_in_block (block_at (2 ^ bits) I 2)

-- those of the superblock that is found in the image, where there is one
abbrev pub superblock_geometry : Image → Option Geo
superblock_geometry I = option_map (geometry_at I) (superblock_bits I)
