-- Where entries of the tree lack something, told by rows.
use Rattle.std.specs.Prelude.{ℕ, Bool, true, false, ◌||◌, not, ◌==◌, List, [], ◌∷◌, ◌++◌, map, flat_map, filter}
use Rattle.o2_model.specs.declared.entry.Entry.{Entry}
use Rattle.o2_model.specs.Faults.{fails_unless}
use Rattle.o2_model.specs.Volume.{Volume}
use Rattle.o2_model.specs.Directories.{directory_entries, is_dot}
use Rattle.o2_model.specs.Groups.{is_inode}
use Rattle.o2_model.specs.Tree.{names_users}
use Rattle.o2_model.specs.Checks.DirDots.{dot_faults}
use Rattle.o2_model.specs.Checks.DirentType.{has_type_of_inode}
use Rattle.o2_tree.specs.declared.directories.EntryName.{EntryName}
use Rattle.o2_tree.specs.declared.directories.EntryName.TheVariants.{Itself, Parent, Other}
use Rattle.o2_tree.specs.declared.directories.EntryRow.{EntryRow}
use Rattle.o2_tree.specs.declared.entered.EnteredRow.{EnteredRow}

-- ---- entries one by one
-- the entry's block, where the entry is not as asked
abbrev pub fault_of : (Entry → Bool) → Entry → List ℕ
fault_of holds e = fails_unless e.block (holds e)

-- a name names one of the users
abbrev pub is_named_soundly : Volume → Entry → Bool
is_named_soundly v e = is_dot e || names_users v e

-- what names an inode has the type of its kind
abbrev pub is_typed_soundly : Volume → Entry → Bool
is_typed_soundly v e = not (is_inode v e.inode) || has_type_of_inode v e

-- the blocks of a directory's entries that are not as asked
abbrev pub faults_in : Volume → (Entry → Bool) → ℕ → List ℕ
faults_in v holds d = flat_map (fault_of holds) (directory_entries v d)

-- ---- the dots
abbrev pub is_same_name : EntryName → EntryName → Bool
is_same_name Itself Itself = true
is_same_name Parent Parent = true
is_same_name Other Other = true
is_same_name _ _ = false

-- the rows of the entries of that name
abbrev pub rows_named : EntryName → List EntryRow → List EntryRow
rows_named name rows = filter (λ r. is_same_name r.name name) rows

-- of rows of one name the first has to name this inode, and there may be no more
abbrev pub not_once_of : ℕ → List EntryRow → List ℕ
not_once_of inode [] = []
not_once_of inode (first ∷ further) = fails_unless first.block (first.inode == inode) ++ map (λ r. r.block) further

-- the same of the rows that are left, where one was met or not
abbrev pub not_once_left : Bool → ℕ → List EntryRow → List ℕ
not_once_left true inode rows = map (λ r. r.block) rows
not_once_left false inode rows = not_once_of inode rows

-- DIR_DOTS of a directory that was entered
abbrev pub dots_of : Volume → EnteredRow → List ℕ
dots_of v d = dot_faults v (record { inode = d.inode; parent = d.parent; path = [] })
