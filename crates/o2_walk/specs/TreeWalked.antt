-- What the walk over rows tells of the tree.
use Rattle.std.specs.Prelude.{◌≡◌, ℕ, true, not, List, [], map, filter}
use Rattle.o2_model.specs.declared.entry.Entry.{Entry}
use Rattle.o2_model.specs.Words.{among}
use Rattle.o2_model.specs.Volume.{Volume}
use Rattle.o2_model.specs.Directories.{directory_entries, is_dot}
use Rattle.o2_model.specs.Tree.{TreeWalk, tree_walk, names_users, is_entered}
use Rattle.o2_tables.specs.Rows.{IsTreeTable}
use Rattle.o2_tables.specs.declared.inodes.InodeRow.{InodeRow}
use Rattle.o2_tally.specs.Again.{has_number}
use Rattle.o2_tree.specs.TreeRows.{IsInodeAt}
use Rattle.o2_tree.specs.TreeWalks.{AreEntered, entered_row}
use Rattle.o2_walk.specs.declared.progress.Progress.{Progress}
use Rattle.o2_walk.specs.declared.walk.Walk.{Walk}

-- The entry names an inode of the users, and this is its row.
pub record IsUserAt (v : Volume) (e : Entry) (row : InodeRow) : Type 0 where
  pub names : names_users v e ≡ true
  pub at : IsInodeAt v e.inode row

-- those of some entries of a directory that the walk follows
abbrev pub followed_of : Volume → List Entry → List Entry
followed_of v es = filter (names_users v) (filter (λ e. not (is_dot e)) es)

-- the inodes that the live entries of a directory name, in order
abbrev pub named_by : Volume → ℕ → List ℕ
named_by v d = map (λ e. e.inode) (directory_entries v d)

-- The walk has met nothing yet.
abbrev pub nothing_met : TreeWalk
nothing_met = record { entered = []; names = []; faults = [] }

-- The progress is that of the walk which has met this so far, but for the paths.
pub record HasMet (w : TreeWalk) (progress : Progress) : Type 0 where
  pub entered : progress.entered.items ≡ map entered_row w.entered
  pub directories : (b : ℕ) → has_number progress.directories b ≡ is_entered w b
  pub met : (b : ℕ) → has_number progress.met b ≡ among (map (λ n. n.1) w.names) b
  pub second : progress.second_names.items ≡ w.faults

-- The walk is that of the tree.
pub record IsWalk (v : Volume) (walk : Walk) : Type 0 where
  pub entered : AreEntered v walk.entered.items
  pub second : walk.second_names.items ≡ (tree_walk v).faults
  pub tree : IsTreeTable v walk.tree
