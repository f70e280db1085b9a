-- An inode that was read once, as a caller keeps it.
use Rattle.std.specs.Prelude.{◌≡◌, ℕ, ◌^◌, ◌≤◌, [], length}
use Rattle.o2_model.specs.declared.geo.Geo.{Geo}
use Rattle.o2_model.specs.Volume.{Volume, dinode}
use Rattle.o2_model.specs.Checks.InodeSize.{inode_size_faults}
use Rattle.o2_extent.specs.Readings.{Within}
use Rattle.o2_dir.specs.Fails.{IsRead}
use Rattle.o2_dir.specs.declared.inode_reading.InodeReading.{InodeReading}

-- the block has the size of these numbers' blocks, and the records' clusters lie within their volume
pub record Fits (geo : Geo) (reading : InodeReading) : Type 0 where
  pub size : length reading.block ≡ 2 ^ geo.block_bits
  pub long : 512 ≤ length reading.block
  pub within : Within geo reading.leaves

-- the reading is one of this inode, for which EXTENT and INODE_SIZE hold
pub record TellsSound (v : Volume) (b : ℕ) (reading : InodeReading) : Type 0 where
  pub number : reading.inode ≡ b
  pub dinode : reading.dinode ≡ dinode v b
  pub read : IsRead v b reading.block reading.leaves
  pub size : inode_size_faults v b ≡ []
