-- Why there is no report, of a view.
use Rattle.std.proofs.Common.{◌≡◌, ℕ, Some, sym, ◌∙◌}
use Rattle.o2_disk.specs.declared.disk.Disk as disk
use Rattle.o2_model.specs.declared.geo.Geo.{Geo}
use Rattle.o2_model.specs.Volume.{Volume}
use Rattle.o2_view.proofs.Faults.{rose_before}
use Rattle.o2_view.proofs.Shown.{still_shows}
use Rattle.o2_view.specs.Views.{view_state, Shows, OnlyReads}
use Rattle.o2_view.specs.declared.view.View.{View}
use Rattle.o2_skeleton.specs.Skeleton.{HasSkeleton}
use Rattle.o2_check.specs.Faults.{CheckFails, TablesFail}
use Rattle.o2_check.specs.WholeTables.{AreTables}
use Rattle.o2_check.specs.declared.fault.CheckFault.{CheckFault}
use Rattle.o2_check.specs.declared.fault.CheckFault.TheVariants.{NoMemory, DeviceFault, Unsupported}
use Rattle.o2_check.specs.declared.tables.Tables.{Tables}

module _ {D : Type 0} {N : ℕ} {g : disk.Ghosts D} where
  -- tables of each volume that is shown
  pub tables_fail : (old new : View D N g) (geo : Geo) (tables : Tables) → ((v : Volume) → Shows old geo v → HasSkeleton v) → ((v : Volume) → Shows old geo v → AreTables v tables)
      → (fault : CheckFault) → TablesFail geo tables fault → CheckFails old new geo fault
  tables_fail old new geo tables holds are NoMemory fails = tt
  tables_fail old new geo tables holds are DeviceFault fails = absurd fails
  tables_fail old new geo tables holds are (Unsupported what b) fails = λ v shows. record { skeleton = holds v shows; first = fails v shows.numbers (are v shows) }

  -- what came before only read
  pub fails_before : (old mid new : View D N g) (geo : Geo) → OnlyReads old mid → (fault : CheckFault) → CheckFails mid new geo fault → CheckFails old new geo fault
  fails_before old mid new geo reads NoMemory fails = tt
  fails_before old mid new geo reads DeviceFault fails = rose_before (view_state old).faults (view_state mid).faults (view_state new).faults reads.later fails
  fails_before old mid new geo reads (Unsupported what b) fails = λ v shows. fails v (still_shows reads shows)
