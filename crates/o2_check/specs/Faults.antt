-- How a check fails.
use Rattle.std.specs.Prelude.{◌≡◌, ℕ, Some}
use Rattle.o2_disk.specs.Device.{Rose}
use Rattle.o2_disk.specs.declared.disk.Disk as disk
use Rattle.o2_model.specs.declared.geo.Geo.{Geo}
use Rattle.o2_model.specs.declared.oddity.Oddity.{Oddity}
use Rattle.o2_model.specs.Volume.{Volume}
use Rattle.o2_model.specs.Structures.{unsupported_structure}
use Rattle.o2_view.specs.Views.{view_state, Shows}
use Rattle.o2_view.specs.declared.fault.ViewFault.{ViewFault}
use Rattle.o2_view.specs.declared.fault.ViewFault.TheVariants as view
use Rattle.o2_view.specs.declared.view.View.{View}
use Rattle.o2_skeleton.specs.Skeleton.{HasSkeleton}
use Rattle.o2_check.specs.WholeTables.{AreTables}
use Rattle.o2_check.specs.declared.tables.Tables.{Tables}
use Rattle.o2_check.specs.declared.fault.CheckFault.{CheckFault}
use Rattle.o2_check.specs.declared.fault.CheckFault.TheVariants.{NoMemory, DeviceFault, Unsupported}

-- the same as of a block that was not read
abbrev pub IsOfView : ViewFault → CheckFault → Type 0
IsOfView view.NoMemory fault = fault ≡ NoMemory
IsOfView view.DeviceFault fault = fault ≡ DeviceFault

-- The skeleton holds, and this is the first on the volume that is not supported.
pub record IsUnsupported (v : Volume) (what : Oddity) (b : ℕ) : Type 0 where
  pub skeleton : HasSkeleton v
  pub first : unsupported_structure v ≡ Some (what, b)

-- Why tables give no report: want of memory, or something outside the profile on each volume of which they are the tables.
abbrev pub TablesFail : Geo → Tables → CheckFault → Type 0
TablesFail geo tables NoMemory = Unit {0}
TablesFail geo tables DeviceFault = ⊥
TablesFail geo tables (Unsupported what b) = (v : Volume) → v.geo ≡ geo → AreTables v tables → unsupported_structure v ≡ Some (what, b)

module _ {D : Type 0} {N : ℕ} {g : disk.Ghosts D} where
  -- Why there is no report: want of memory, which may come at any time, a call of the device that failed, or something outside the
  -- profile on each volume that the view shows.
  abbrev pub CheckFails : View D N g → View D N g → Geo → CheckFault → Type 0
  CheckFails old new geo NoMemory = Unit {0}
  CheckFails old new geo DeviceFault = Rose (view_state old).faults (view_state new).faults
  CheckFails old new geo (Unsupported what b) = (v : Volume) → Shows old geo v → IsUnsupported v what b
