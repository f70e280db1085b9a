-- What the walk of the tree met, and which inodes it does not follow.
use Rattle.std.specs.Prelude.{◌≡◌, ℕ, true, List, map}
use Rattle.std.specs.List.{list_all}
use Rattle.std.specs.BTreeSet.{BTreeSet}
use Rattle.o2_model.specs.Words.{among}
use Rattle.o2_model.specs.Volume.{Volume}
use Rattle.o2_model.specs.Directories.{own_inodes}
use Rattle.o2_model.specs.Tree.{Entered, tree_walk}
use Rattle.o2_model.specs.Checks.OrphanEntry.{orphan_entries}
use Rattle.o2_tally.specs.Again.{has_number}
use Rattle.o2_tree.specs.TreeRows.{all_directories, row_of}
use Rattle.o2_tree.specs.declared.directories.EntryRow.{EntryRow}
use Rattle.o2_tree.specs.declared.entered.EnteredRow.{EnteredRow}

-- These numbers are the volume's own inodes.
pub record AreOwn (v : Volume) (own : BTreeSet ℕ) : Type 0 where
  pub each : (b : ℕ) → has_number own b ≡ among (own_inodes v) b

-- a directory that was entered, without its path
abbrev pub entered_row : Entered → EnteredRow
entered_row d = record { inode = d.inode; parent = d.parent }

-- The rows are those of the directories that the walk enters, in its order, each of which is a directory of the volume.
pub record AreEntered (v : Volume) (rows : List EnteredRow) : Type 0 where
  pub listed : rows ≡ map entered_row (tree_walk v).entered
  pub directories : list_all (λ r. among (all_directories v) r.inode) rows ≡ true

-- The rows are those of the entries of orphan directories but the dots, over rising slots.
pub record AreOrphans (v : Volume) (rows : List EntryRow) : Type 0 where
  pub listed : rows ≡ map row_of (orphan_entries v)
