-- How a call on chains fails.
use Rattle.std.specs.Prelude.{◌≡◌, ℕ, List}
use Rattle.o2_disk.specs.Device.{Rose}
use Rattle.o2_disk.specs.declared.disk.Disk as disk
use Rattle.o2_model.specs.declared.geo.Geo.{Geo}
use Rattle.o2_view.specs.OwnChecks.{OwnCheck, IsBad}
use Rattle.o2_view.specs.Views.{view_state}
use Rattle.o2_view.specs.declared.fault.ReadFault.{ReadFault}
use Rattle.o2_view.specs.declared.fault.ReadFault.TheVariants as read
use Rattle.o2_view.specs.declared.fault.ViewFault.{ViewFault}
use Rattle.o2_view.specs.declared.fault.ViewFault.TheVariants as view
use Rattle.o2_view.specs.declared.view.View.{View}
use Rattle.o2_chain.specs.declared.fault.ChainFault.{ChainFault}
use Rattle.o2_chain.specs.declared.fault.ChainFault.TheVariants as chain

-- the fault of the same name
abbrev pub IsChainFault : ReadFault → ChainFault → Type 0
IsChainFault read.NoMemory fault = fault ≡ chain.NoMemory
IsChainFault read.DeviceFault fault = fault ≡ chain.DeviceFault
IsChainFault (read.Bad check block) fault = fault ≡ chain.Bad check block

abbrev pub IsFaultOfView : ViewFault → ChainFault → Type 0
IsFaultOfView view.NoMemory fault = fault ≡ chain.NoMemory
IsFaultOfView view.DeviceFault fault = fault ≡ chain.DeviceFault

module _ {D : Type 0} {N : ℕ} {g : disk.Ghosts D} where
  -- why chains were not read: a call of the device failed, there is no memory, or one of these checks fails
  abbrev pub ChainFails : View D N g → View D N g → Geo → List OwnCheck → ChainFault → Type 0
  ChainFails old new geo checks chain.NoMemory = Unit {0}
  ChainFails old new geo checks chain.DeviceFault = Rose (view_state old).faults (view_state new).faults
  ChainFails old new geo checks (chain.Bad check b) = IsBad old geo checks check b
  ChainFails old new geo checks (chain.NoSpace needed longest) = ⊥
