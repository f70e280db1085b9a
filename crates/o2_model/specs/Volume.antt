-- A volume: the numbers of its superblock, and its blocks.
use Rattle.std.specs.Prelude.{ℕ, ◌-◌, ◌*◌, ◌/◌, ◌^◌, Bool, ◌&&◌, ◌==◌, nat_lt, List, length, Option}
use Rattle.std.specs.Option.{option_map}
use Rattle.o2_ondisk.specs.Bits.{has_bits, valid_inode_flag}
use Rattle.o2_ondisk.specs.Dinodes.{dinode_of}
use Rattle.o2_ondisk.specs.Signatures.{inode_signature}
use Rattle.o2_ondisk.specs.declared.dinode.Dinode.{Dinode}
use Rattle.o2_disk.specs.Image.{Image, block_at}
use Rattle.o2_model.specs.Superblock.{superblock_bits}
use Rattle.o2_model.specs.Geometry.{geometry_at}
use Rattle.o2_model.specs.declared.geo.Geo.{Geo}

pub record Volume : Type 0 where
  pub geo : Geo
  -- the bytes of each block
  pub at : ℕ → List ℕ
  -- how many whole blocks the device has
  pub on_device : ℕ

-- the same volume with other blocks
abbrev pub over : Volume → (ℕ → List ℕ) → Volume
over v at = record v { at = at }

-- ---- sizes and ranges
-- bytes of a block
abbrev pub block_size : Volume → ℕ
block_size v = 2 ^ v.geo.block_bits

-- blocks of a cluster
abbrev pub per_cluster : Volume → ℕ
per_cluster v = 2 ^ (v.geo.cluster_bits - v.geo.block_bits)

-- the blocks of the volume are those below this number
abbrev pub blocks : Volume → ℕ
blocks v = v.geo.clusters * per_cluster v

-- no structure of the volume is in block 0
abbrev pub is_in_range : Volume → ℕ → Bool
is_in_range v b = nat_lt 0 b && nat_lt b (blocks v)

-- ---- dinodes
-- what the block says as a dinode
abbrev pub dinode : Volume → ℕ → Dinode
dinode v b = dinode_of (v.at b)

-- the dinode at b is valid: the block is in range, and the dinode is one of this volume and of this block, in use
unfoldable pub is_valid : Volume → ℕ → Bool
is_valid v b =
    is_in_range v b
    && (dinode v b).signature.0 == inode_signature
    && (dinode v b).blkno == b
    && (dinode v b).fs_generation == v.geo.generation
    && has_bits (dinode v b).flags.0 valid_inode_flag

-- ---- volumes in images
-- the volume of an image where a block has 2 ^ bits bytes
abbrev pub volume_of : Image → ℕ → Volume
volume_of I bits = record {
  geo = geometry_at I bits;
  at = block_at (2 ^ bits) I;
  on_device = 512 * length I / 2 ^ bits;
}

-- the volume in the image, where a superblock is found
abbrev pub opened : Image → Option Volume
opened I = option_map (volume_of I) (superblock_bits I)
