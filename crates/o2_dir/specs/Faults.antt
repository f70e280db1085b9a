-- The faults of a view and of a reader as those of a directory, and both as those of a path.
use Rattle.std.specs.Prelude.{◌≡◌}
use Rattle.o2_view.specs.declared.fault.ViewFault.{ViewFault}
use Rattle.o2_view.specs.declared.fault.ViewFault.TheVariants as view
use Rattle.o2_view.specs.declared.fault.ReadFault.{ReadFault}
use Rattle.o2_view.specs.declared.fault.ReadFault.TheVariants as read
use Rattle.o2_dir.specs.declared.fault.DirFault.{DirFault}
use Rattle.o2_dir.specs.declared.fault.DirFault.TheVariants as dir
use Rattle.o2_dir.specs.declared.fault.PathFault.{PathFault}
use Rattle.o2_dir.specs.declared.fault.PathFault.TheVariants as path

-- the fault of the same name
abbrev pub IsOfView : ViewFault → DirFault → Type 0
IsOfView view.NoMemory fault = fault ≡ dir.NoMemory
IsOfView view.DeviceFault fault = fault ≡ dir.DeviceFault

-- the fault of the same name, with the same check and block
abbrev pub IsOfRead : ReadFault → DirFault → Type 0
IsOfRead read.NoMemory fault = fault ≡ dir.NoMemory
IsOfRead read.DeviceFault fault = fault ≡ dir.DeviceFault
IsOfRead (read.Bad check block) fault = fault ≡ dir.Bad check block

-- the fault of the same name
abbrev pub IsPathOfView : ViewFault → PathFault → Type 0
IsPathOfView view.NoMemory fault = fault ≡ path.NoMemory
IsPathOfView view.DeviceFault fault = fault ≡ path.DeviceFault

-- the fault of the same name, with the same check and block
abbrev pub IsPathOfDir : DirFault → PathFault → Type 0
IsPathOfDir dir.NoMemory fault = fault ≡ path.NoMemory
IsPathOfDir dir.DeviceFault fault = fault ≡ path.DeviceFault
IsPathOfDir (dir.Bad check block) fault = fault ≡ path.Bad check block
IsPathOfDir dir.Absent fault = fault ≡ path.Absent
