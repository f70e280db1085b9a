-- The checks that a call judges by itself, and how it fails.
use Rattle.std.specs.Prelude.{◌≡◌, ◌⊎◌, ℕ, List, [], ◌∷◌, map}
use Rattle.o2_disk.specs.Device.{Rose}
use Rattle.o2_disk.specs.declared.disk.Disk as disk
use Rattle.o2_model.specs.Volume.{Volume}
use Rattle.o2_model.specs.FirstFault.{FailsFirst as FailsFirstOf}
use Rattle.o2_model.specs.declared.check.Check.{Check}
use Rattle.o2_model.specs.declared.geo.Geo.{Geo}
use Rattle.o2_view.specs.Views.{view_state, Shows}
use Rattle.o2_view.specs.declared.fault.ViewFault.{ViewFault}
use Rattle.o2_view.specs.declared.fault.ViewFault.TheVariants as view
use Rattle.o2_view.specs.declared.fault.ReadFault.{ReadFault}
use Rattle.o2_view.specs.declared.fault.ReadFault.TheVariants as read
use Rattle.o2_view.specs.declared.view.View.{View}

-- A check that a call judges for the object that it reads, with the blocks at which it fails.
pub record OwnCheck : Type 0 where
  pub check : Check
  pub faults : Volume → List ℕ

-- none of them fails
abbrev pub NoneFails : List OwnCheck → Volume → Type 0
NoneFails [] v = Unit {0}
NoneFails (c ∷ cs) v = (c.faults v ≡ []) × NoneFails cs v

-- this is the first of them that fails, and this is the least block at which it does
abbrev pub FailsFirst : List OwnCheck → Volume → Check → ℕ → Type 0
FailsFirst checks v = FailsFirstOf (map (λ c. (c.check, c.faults v)) checks)

-- it is one of them
abbrev pub IsOwn : List OwnCheck → Check → Type 0
IsOwn [] check = ⊥
IsOwn (c ∷ cs) check = (check ≡ c.check) ⊎ IsOwn cs check

-- One of the checks fails at this block: of each such volume, as the first of them and at its least block.
pub record IsBadOf (Of : Volume → Type 0) (checks : List OwnCheck) (check : Check) (b : ℕ) : Type 0 where
  pub own : IsOwn checks check
  pub first : (v : Volume) → Of v → FailsFirst checks v check b

module _ {D : Type 0} {N : ℕ} {g : disk.Ghosts D} where
  -- of each volume that the view shows
  abbrev pub IsBad : View D N g → Geo → List OwnCheck → Check → ℕ → Type 0
  IsBad view geo checks check b = IsBadOf (Shows view geo) checks check b

  -- why a block was not read: a call of the device failed, or there is no memory, which may come at any time
  abbrev pub BlockFails : View D N g → View D N g → ViewFault → Type 0
  BlockFails old new view.NoMemory = Unit {0}
  BlockFails old new view.DeviceFault = Rose (view_state old).faults (view_state new).faults

  -- why an object was not read: one of these checks fails too, of each such volume
  abbrev pub ReadFailsOf : (Volume → Type 0) → View D N g → View D N g → List OwnCheck → ReadFault → Type 0
  ReadFailsOf Of old new checks read.NoMemory = Unit {0}
  ReadFailsOf Of old new checks read.DeviceFault = Rose (view_state old).faults (view_state new).faults
  ReadFailsOf Of old new checks (read.Bad check b) = IsBadOf Of checks check b

  -- the same of each volume that the view shows
  abbrev pub ReadFails : View D N g → View D N g → Geo → List OwnCheck → ReadFault → Type 0
  ReadFails old new geo checks fault = ReadFailsOf (Shows old geo) old new checks fault
