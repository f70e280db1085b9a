-- The faults of readers as those of a query.
use Rattle.std.specs.Prelude.{◌≡◌}
use Rattle.o2_view.specs.declared.fault.ViewFault.{ViewFault}
use Rattle.o2_view.specs.declared.fault.ViewFault.TheVariants as view
use Rattle.o2_view.specs.declared.fault.ReadFault.{ReadFault}
use Rattle.o2_view.specs.declared.fault.ReadFault.TheVariants as read
use Rattle.o2_dir.specs.declared.fault.DirFault.{DirFault}
use Rattle.o2_dir.specs.declared.fault.DirFault.TheVariants as dir
use Rattle.o2_dir.specs.declared.fault.PathFault.{PathFault}
use Rattle.o2_dir.specs.declared.fault.PathFault.TheVariants as path
use Rattle.o2_debug.specs.declared.fault.DebugFault.{DebugFault}
use Rattle.o2_debug.specs.declared.fault.DebugFault.TheVariants as debug

-- the fault of the same name
abbrev pub IsOfView : ViewFault → DebugFault → Type 0
IsOfView view.NoMemory fault = fault ≡ debug.NoMemory
IsOfView view.DeviceFault fault = fault ≡ debug.DeviceFault

-- the fault of the same name, with the same check and block
abbrev pub IsOfRead : ReadFault → DebugFault → Type 0
IsOfRead read.NoMemory fault = fault ≡ debug.NoMemory
IsOfRead read.DeviceFault fault = fault ≡ debug.DeviceFault
IsOfRead (read.Bad check block) fault = fault ≡ debug.Bad check block

-- the same
abbrev pub IsOfDir : DirFault → DebugFault → Type 0
IsOfDir dir.NoMemory fault = fault ≡ debug.NoMemory
IsOfDir dir.DeviceFault fault = fault ≡ debug.DeviceFault
IsOfDir (dir.Bad check block) fault = fault ≡ debug.Bad check block
IsOfDir dir.Absent fault = fault ≡ debug.Absent

-- the same
abbrev pub IsOfPath : PathFault → DebugFault → Type 0
IsOfPath path.NoMemory fault = fault ≡ debug.NoMemory
IsOfPath path.DeviceFault fault = fault ≡ debug.DeviceFault
IsOfPath (path.Bad check block) fault = fault ≡ debug.Bad check block
IsOfPath path.Absent fault = fault ≡ debug.Absent
IsOfPath path.WrongKind fault = fault ≡ debug.WrongKind
