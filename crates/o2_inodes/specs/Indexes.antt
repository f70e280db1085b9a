-- What a pass over inodes tells of the indexes of directories.
use Rattle.std.specs.Prelude.{◌≡◌, ℕ, true, false, List, map, filter, MatchOption, Option}
use Rattle.std.specs.List.{AllByRecursion}
use Rattle.o2_model.specs.Volume.{Volume}
use Rattle.o2_model.specs.Indexes.{is_indexed}
use Rattle.o2_tree.specs.TreeRows.{IsIndexRow}
use Rattle.o2_tree.specs.declared.indexes.IndexRow.{IndexRow}

-- The inode is a directory with an index, and this is its row.
pub record IsIndexRead (v : Volume) (b : ℕ) (row : IndexRow) : Type 0 where
  pub is : is_indexed v b ≡ true
  pub of : row.directory ≡ b
  pub says : IsIndexRow v row

-- what was read of the inode's index, if it has one
abbrev pub TellsIndex : Volume → ℕ → Option IndexRow → Type 0
TellsIndex v b found = MatchOption found (is_indexed v b ≡ false) (λ row. IsIndexRead v b row)

-- The rows are those of the indexes of the directories among these inodes, in order.
pub record AreIndexes (v : Volume) (bs : List ℕ) (rows : List IndexRow) : Type 0 where
  pub listed : map (λ r. r.directory) rows ≡ filter (is_indexed v) bs
  pub each : AllByRecursion (IsIndexRow v) rows
