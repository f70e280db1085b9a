-- What a pass over inodes tells of those that are directories.
use Rattle.std.specs.Prelude.{◌≡◌, ℕ, true, false, List, [], map, filter, MatchOption, Option, if◌then◌else◌}
use Rattle.std.specs.List.{AllByRecursion}
use Rattle.o2_model.specs.Volume.{Volume}
use Rattle.o2_model.specs.Inodes.{is_directory}
use Rattle.o2_dir.specs.WholeDirectories.{IsWholeDirectory}
use Rattle.o2_dir.specs.declared.directory_whole.WholeDirectory.{WholeDirectory}
use Rattle.o2_tree.specs.TreeRows.{IsDirectoryRow}
use Rattle.o2_tree.specs.declared.directories.DirectoryRow.{DirectoryRow}

-- The inode is a directory, which was read.
pub record IsDirectoryRead (v : Volume) (b : ℕ) (directory : WholeDirectory) : Type 0 where
  pub is : is_directory v b ≡ true
  pub whole : IsWholeDirectory v b directory

-- what was read of the inode, if it is a directory
abbrev pub TellsDirectory : Volume → ℕ → Option WholeDirectory → Type 0
TellsDirectory v b found = MatchOption found (is_directory v b ≡ false) (λ directory. IsDirectoryRead v b directory)

-- where a check of directories fails for this inode
abbrev pub of_directory : (Volume → ℕ → List ℕ) → Volume → ℕ → List ℕ
of_directory faults v b = if is_directory v b then faults v b else []

-- The rows are those of the directories among these inodes, in order.
pub record AreDirectories (v : Volume) (bs : List ℕ) (rows : List DirectoryRow) : Type 0 where
  pub listed : map (λ r. r.block) rows ≡ filter (is_directory v) bs
  pub each : AllByRecursion (IsDirectoryRow v) rows
