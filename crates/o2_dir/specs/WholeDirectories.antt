-- A directory that was read whole, sound or not.
use Rattle.std.specs.Prelude.{◌≡◌, ℕ, List, map}
use Rattle.std.specs.List.{list_all}
use Rattle.o2_model.specs.Volume.{Volume}
use Rattle.o2_model.specs.Directories.{DirBlock, dir_blocks, directory_entries}
use Rattle.o2_model.specs.SoundIndexes.{ends_in_trailer, has_trailers}
use Rattle.o2_model.specs.Checks.DirBlock.{dir_block_faults}
use Rattle.o2_dir.specs.Blocks.{Keeps}
use Rattle.o2_dir.specs.declared.directory_whole.WholeDirectory.{WholeDirectory}
use Rattle.o2_dir.specs.declared.whole_reading.WholeReading.{WholeReading}

-- What was read of these blocks, where each has these bytes: their entries, the blocks, and how they end.
pub record KeepsWhole (bytes_of : DirBlock → List ℕ) (whole : WholeReading) (bs : List DirBlock) : Type 0 where
  pub kept : Keeps whole.reading bs
  pub blocks : whole.blocks.items ≡ map (λ b. b.block) bs
  pub trailers : whole.has_trailers ≡ list_all (λ b. ends_in_trailer (bytes_of b)) bs

-- What was read is the directory's.
pub record IsWholeDirectory (v : Volume) (d : ℕ) (directory : WholeDirectory) : Type 0 where
  pub entries : directory.entries ≡ directory_entries v d
  pub blocks : directory.blocks ≡ map (λ b. b.block) (dir_blocks v d)
  pub faults : directory.faults ≡ dir_block_faults v d
  pub trailers : directory.has_trailers ≡ has_trailers v d
