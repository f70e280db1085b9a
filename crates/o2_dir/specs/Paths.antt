-- Where the names of a path lead.
use Rattle.std.specs.Prelude.{◌≡◌, ◌⊎◌, ◌++◌, ℕ, true, false, List, [], ◌∷◌, codes, Some, None}
use Rattle.std.specs.List.{list_all, join_with_byte}
use Rattle.o2_disk.specs.Device.{Rose}
use Rattle.o2_disk.specs.declared.disk.Disk as disk
use Rattle.o2_model.specs.declared.check.Check.{Check}
use Rattle.o2_model.specs.declared.check.Check.TheVariants as check
use Rattle.o2_model.specs.declared.geo.Geo.{Geo}
use Rattle.o2_model.specs.Volume.{Volume, is_valid}
use Rattle.o2_model.specs.Inodes.{is_directory}
use Rattle.o2_model.specs.declared.entry.Entry.{Entry}
use Rattle.o2_model.specs.Directories.{first_named}
use Rattle.o2_view.specs.OwnChecks.{NoneFails, FailsFirst}
use Rattle.o2_view.specs.Views.{view_state, Shows}
use Rattle.o2_view.specs.declared.view.View.{View}
use Rattle.o2_dir.specs.Fails.{directory_checks}
use Rattle.o2_dir.specs.PathTexts.{is_name}
use Rattle.o2_dir.specs.declared.fault.PathFault.{PathFault}
use Rattle.o2_dir.specs.declared.fault.PathFault.TheVariants as path

-- ---- the names of a path
-- the text is these names, with a slash between each two
pub record AreNames (text : List ℕ) (names : List (List ℕ)) : Type 0 where
  pub are_names : list_all is_name names ≡ true
  pub form : text ≡ join_with_byte 47 names

-- the text is this beginning, followed by these names
pub record Follows (start text : List ℕ) (names : List (List ℕ)) : Type 0 where
  pub are_names : list_all is_name names ≡ true
  pub form : text ≡ start ++ join_with_byte 47 names

-- the path has these names, and begins at this directory: `/` at the root, `//` at the system directory
abbrev pub Begins : Geo → List ℕ → ℕ → List (List ℕ) → Type 0
Begins geo text d names = ((d ≡ geo.root) × Follows (codes "/") text names) ⊎ ((d ≡ geo.sysdir) × Follows (codes "//") text names)

-- ---- one step
-- The directory is sound, and the first of its live entries with the name is this one, which names a valid dinode.
pub record StepsTo (v : Volume) (d : ℕ) (name : List ℕ) (e : Entry) : Type 0 where
  pub directory : is_directory v d ≡ true
  pub sound : NoneFails (directory_checks d) v
  pub first : first_named v d name ≡ Some e
  pub valid : is_valid v e.inode ≡ true

-- the directory is sound, and no live entry has the name
pub record Lacks (v : Volume) (d : ℕ) (name : List ℕ) : Type 0 where
  pub directory : is_directory v d ≡ true
  pub sound : NoneFails (directory_checks d) v
  pub none : first_named v d name ≡ None

-- the inode is no directory
abbrev pub IsNoDirectory : Volume → ℕ → List ℕ → Type 0
IsNoDirectory v d name = is_directory v d ≡ false

-- the directory is sound, and the first live entry with the name, in this block, names no valid dinode
pub record LeadsAstray (v : Volume) (d : ℕ) (name : List ℕ) (b : ℕ) : Type 0 where
  pub directory : is_directory v d ≡ true
  pub sound : NoneFails (directory_checks d) v
  pub entry : Entry
  pub first : first_named v d name ≡ Some entry
  pub invalid : is_valid v entry.inode ≡ false
  pub place : b ≡ entry.block

-- this is the first check that fails for the directory, or DIRENT_INODE fails for the entry of the name, each at this block
abbrev pub FailsAt : Check → ℕ → Volume → ℕ → List ℕ → Type 0
FailsAt failing b v d name = ((is_directory v d ≡ true) × FailsFirst (directory_checks d) v failing b) ⊎ ((failing ≡ check.DirentInode) × LeadsAstray v d name b)

-- ---- all steps
-- from the inode d these names lead to inode i
abbrev pub Leads : Volume → ℕ → List (List ℕ) → ℕ → Type 0
Leads v d [] i = i ≡ d
Leads v d (name ∷ names) i = (e : Entry) × StepsTo v d name e × Leads v e.inode names i

-- this holds on the way: of an inode that the names before one lead to, and of that name
abbrev pub OnTheWay : (Volume → ℕ → List ℕ → Type 0) → Volume → ℕ → List (List ℕ) → Type 0
OnTheWay Holds v d [] = ⊥
OnTheWay Holds v d (name ∷ names) = Holds v d name ⊎ ((e : Entry) × StepsTo v d name e × OnTheWay Holds v e.inode names)

-- ---- how a path fails
-- the checks that fail on the way
abbrev pub IsOfPath : Check → Type 0
IsOfPath failing = (failing ≡ check.Extent) ⊎ (failing ≡ check.InodeSize) ⊎ (failing ≡ check.DirBlock) ⊎ (failing ≡ check.DirentInode)

module _ {D : Type 0} {N : ℕ} {g : disk.Ghosts D} where
  -- where the view shows a volume, this holds of the inode and the name that is looked up there
  abbrev pub AtName : View D N g → Geo → ℕ → List ℕ → (Volume → ℕ → List ℕ → Type 0) → Type 0
  AtName view geo d name Holds = (v : Volume) → Shows view geo v → Holds v d name

  -- the same somewhere on the way by the names of a text
  abbrev pub OnNames : View D N g → Geo → ℕ → List ℕ → (Volume → ℕ → List ℕ → Type 0) → Type 0
  OnNames view geo d text Holds = (v : Volume) → Shows view geo v → (names : List (List ℕ)) → AreNames text names → OnTheWay Holds v d names

  -- the same on the way by a whole path
  abbrev pub OnPath : View D N g → Geo → List ℕ → (Volume → ℕ → List ℕ → Type 0) → Type 0
  OnPath view geo text Holds = (v : Volume) → Shows view geo v → (d : ℕ) (names : List (List ℕ)) → Begins geo text d names → OnTheWay Holds v d names

  -- why names led nowhere; what is wrong holds where `Met` says
  abbrev pub PathFails : View D N g → View D N g → ((Volume → ℕ → List ℕ → Type 0) → Type 0) → PathFault → Type 0
  PathFails old new Met path.NoMemory = Unit {0}
  PathFails old new Met path.DeviceFault = Rose (view_state old).faults (view_state new).faults
  PathFails old new Met (path.Bad failing b) = IsOfPath failing × Met (FailsAt failing b)
  PathFails old new Met path.Absent = Met Lacks
  PathFails old new Met path.WrongKind = Met IsNoDirectory
