-- An inode with all that is read of it.
use Rattle.std.specs.Prelude.{◌≡◌, ◌^◌, ◌≤◌, length}
use Rattle.o2_model.specs.declared.geo.Geo.{Geo}
use Rattle.o2_model.specs.Volume.{Volume}
use Rattle.o2_model.specs.Inodes.{extents}
use Rattle.o2_extent.specs.Readings.{Keeps, Within}
use Rattle.o2_inodes.specs.Directories.{TellsDirectory}
use Rattle.o2_inodes.specs.Indexes.{TellsIndex}
use Rattle.o2_inodes.specs.declared.inode_read.InodeRead.{InodeRead}

-- its block has the size of these numbers' blocks, and its records' clusters lie within their volume
pub record Fits (geo : Geo) (inode : InodeRead) : Type 0 where
  pub size : length inode.block ≡ 2 ^ geo.block_bits
  pub long : 512 ≤ length inode.block
  pub within : Within geo inode.reading.leaves.items

-- What was read is what stands on the volume.
pub record IsInodeRead (v : Volume) (inode : InodeRead) : Type 0 where
  pub holds : inode.block ≡ v.at inode.number
  pub kept : Keeps v inode.reading (extents v inode.number)
  pub directory : TellsDirectory v inode.number inode.directory
  pub index : TellsIndex v inode.number inode.index
