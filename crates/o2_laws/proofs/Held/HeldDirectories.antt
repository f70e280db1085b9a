-- Where nothing fails, blocks that agree on the held ones have the same blocks and entries of directories.
use Rattle.std.proofs.Common.{◌≡◌, ℕ, true, not, List, [], ap}
use Rattle.std.specs.Prelude.{filter}
use Rattle.o2_model.specs.Volume.{Volume, over}
use Rattle.o2_model.specs.Inodes.{is_directory}
use Rattle.o2_model.specs.Directories.{is_dot, dir_blocks, directory_entries, named_entries}
use Rattle.o2_model.specs.Groups.{is_inode}
use Rattle.o2_model.specs.Failing.{failing}
use Rattle.o2_laws.proofs.Held.HeldBlocks.{AgreesOnHeld}
use Rattle.o2_laws.proofs.Held.OwnInodes.{directory_apart}
use Rattle.o2_laws.proofs.Held.HeldTells.{held_tell_dir_blocks, held_tell_entries}

-- an inode that is a directory
pub record IsDirectoryInode (v : Volume) (d : ℕ) : Type 0 where
  pub inode : is_inode v d ≡ true
  pub directory : is_directory v d ≡ true

pub blocks_of_directory : (v : Volume) (at : ℕ → List ℕ) (d : ℕ) → failing v ≡ [] → AgreesOnHeld v at → IsDirectoryInode v d → dir_blocks (over v at) d ≡ dir_blocks v d
blocks_of_directory v at d none agrees is = held_tell_dir_blocks v at d none agrees is.inode (directory_apart v d none is.directory)

pub entries_of_directory : (v : Volume) (at : ℕ → List ℕ) (d : ℕ) → failing v ≡ [] → AgreesOnHeld v at → IsDirectoryInode v d → directory_entries (over v at) d ≡ directory_entries v d
entries_of_directory v at d none agrees is = held_tell_entries v at d none agrees is.inode (directory_apart v d none is.directory)

pub names_of_directory : (v : Volume) (at : ℕ → List ℕ) (d : ℕ) → failing v ≡ [] → AgreesOnHeld v at → IsDirectoryInode v d → named_entries (over v at) d ≡ named_entries v d
names_of_directory v at d none agrees is = ap (filter (λ e. not (is_dot e))) (entries_of_directory v at d none agrees is)
