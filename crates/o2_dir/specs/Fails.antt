-- What a reader of an inode judges by itself, how it fails, and what a reader of blocks is given.
use Rattle.std.specs.Prelude.{◌≡◌, ℕ, true, false, List, [], ◌∷◌, None}
use Rattle.o2_disk.specs.Device.{Rose}
use Rattle.o2_disk.specs.declared.disk.Disk as disk
use Rattle.o2_model.specs.declared.check.Check.TheVariants as check
use Rattle.o2_model.specs.declared.geo.Geo.{Geo}
use Rattle.o2_model.specs.declared.leaf.Leaf.{Leaf}
use Rattle.o2_model.specs.Volume.{Volume, dinode}
use Rattle.o2_model.specs.Directories.{first_named}
use Rattle.o2_model.specs.Inodes.{is_directory, is_inline, leaf_records}
use Rattle.o2_model.specs.Checks.Extent.{extent_faults}
use Rattle.o2_model.specs.Checks.InodeSize.{inode_size_faults}
use Rattle.o2_model.specs.Checks.DirBlock.{dir_block_faults}
use Rattle.o2_view.specs.OwnChecks.{OwnCheck, NoneFails, IsBadOf}
use Rattle.o2_view.specs.Views.{view_state, Shows}
use Rattle.o2_view.specs.declared.view.View.{View}
use Rattle.o2_dir.specs.declared.fault.DirFault.{DirFault}
use Rattle.o2_dir.specs.declared.fault.DirFault.TheVariants as dir

-- what a reader of an inode's bytes judges: EXTENT and INODE_SIZE
abbrev pub data_checks : ℕ → List OwnCheck
data_checks b =
    record { check = check.Extent; faults = λ v. extent_faults v b }
    ∷ record { check = check.InodeSize; faults = λ v. inode_size_faults v b }
    ∷ []

-- what a reader of a directory's entries judges: these two and DIR_BLOCK
abbrev pub directory_checks : ℕ → List OwnCheck
directory_checks d =
    record { check = check.Extent; faults = λ v. extent_faults v d }
    ∷ record { check = check.InodeSize; faults = λ v. inode_size_faults v d }
    ∷ record { check = check.DirBlock; faults = λ v. dir_block_faults v d }
    ∷ []

module _ {D : Type 0} {N : ℕ} {g : disk.Ghosts D} where
  -- why entries were not read: of each such volume one of these checks fails too, and where no entry has the name, this holds
  abbrev pub DirFailsOf : (Volume → Type 0) → View D N g → View D N g → List OwnCheck → Type 0 → DirFault → Type 0
  DirFailsOf Of old new checks absent dir.NoMemory = Unit {0}
  DirFailsOf Of old new checks absent dir.DeviceFault = Rose (view_state old).faults (view_state new).faults
  DirFailsOf Of old new checks absent (dir.Bad check b) = IsBadOf Of checks check b
  DirFailsOf Of old new checks absent dir.Absent = absent

  -- the same of each volume that the view shows
  abbrev pub DirFails : View D N g → View D N g → Geo → List OwnCheck → Type 0 → DirFault → Type 0
  DirFails old new geo checks absent fault = DirFailsOf (Shows old geo) old new checks absent fault

-- in each such volume no live entry has the name, and nothing is wrong with the directory
abbrev pub HasNoneOf : (Volume → Type 0) → ℕ → List ℕ → Type 0
HasNoneOf Of d name = (v : Volume) → Of v → NoneFails (directory_checks d) v × (first_named v d name ≡ None)

module _ {D : Type 0} {N : ℕ} {g : disk.Ghosts D} where
  -- in each volume that the view shows
  abbrev pub HasNone : View D N g → Geo → ℕ → List ℕ → Type 0
  HasNone view geo d name = HasNoneOf (Shows view geo) d name

-- an inode whose block has these bytes, and whose extents are well formed, with these leaf records
pub record IsRead (v : Volume) (d : ℕ) (bytes : List ℕ) (leaves : List Leaf) : Type 0 where
  pub holds : bytes ≡ v.at d
  pub sound : extent_faults v d ≡ []
  pub are : leaves ≡ leaf_records v d

-- the block of an inode has these bytes, and these are its leaf records, also where its extents are not well formed
pub record HoldsLeaves (v : Volume) (d : ℕ) (bytes : List ℕ) (leaves : List Leaf) : Type 0 where
  pub holds : bytes ≡ v.at d
  pub are : leaves ≡ leaf_records v d

-- a directory whose blocks the leaf records map, also where its extents are not well formed
pub record MapsBlocks (v : Volume) (d size : ℕ) (leaves : List Leaf) : Type 0 where
  pub outside : is_inline v d ≡ false
  pub directory : is_directory v d ≡ true
  pub tells : size ≡ (dinode v d).size
  pub are : leaves ≡ leaf_records v d

-- the same where they are well formed
pub record IsMapped (v : Volume) (d size : ℕ) (leaves : List Leaf) : Type 0 where
  pub outside : is_inline v d ≡ false
  pub directory : is_directory v d ≡ true
  pub sound : extent_faults v d ≡ []
  pub tells : size ≡ (dinode v d).size
  pub are : leaves ≡ leaf_records v d

-- a directory whose entries stand in its dinode, which has these bytes
pub record IsInline (v : Volume) (d size : ℕ) (bytes : List ℕ) : Type 0 where
  pub inside : is_inline v d ≡ true
  pub sound : extent_faults v d ≡ []
  pub tells : size ≡ (dinode v d).size
  pub holds : bytes ≡ v.at d

module _ {D : Type 0} {N : ℕ} {g : disk.Ghosts D} where
  -- The view shows the volume, in which the inode has these bytes and these records.
  pub record ShowsRead (view : View D N g) (geo : Geo) (d : ℕ) (bytes : List ℕ) (leaves : List Leaf) (v : Volume) : Type 0 where
    pub shows : Shows view geo v
    pub read : IsRead v d bytes leaves

  -- The view shows the volume, in which these records map the blocks of the directory.
  pub record ShowsMapped (view : View D N g) (geo : Geo) (d size : ℕ) (leaves : List Leaf) (v : Volume) : Type 0 where
    pub shows : Shows view geo v
    pub mapped : IsMapped v d size leaves
