-- How the check of a device fails, and the causes of that.
use Rattle.std.specs.Prelude.{ℕ}
use Rattle.o2_disk.specs.Device.{DiskState, Rose}
use Rattle.o2_model.specs.declared.geo.Geo.{Geo}
use Rattle.o2_model.specs.Volume.{Volume}
use Rattle.o2_check.specs.Faults.{IsUnsupported}
use Rattle.o2_check.specs.declared.fault.CheckFault.{CheckFault}
use Rattle.o2_check.specs.declared.fault.CheckFault.TheVariants as check
use Rattle.o2_cause.specs.declared.cause.Cause.{Cause}
use Rattle.o2_cause.specs.declared.cause.Cause.TheVariants.{Unsupported, DeviceFault, NoMemory}
use Rattle.o2_open.specs.Devices.{IsOn}

-- want of memory, which may come at any time, a call of the device that failed, or something outside the profile
abbrev pub DeviceCheckFails : DiskState → DiskState → Geo → CheckFault → Type 0
DeviceCheckFails old new geo check.NoMemory = Unit {0}
DeviceCheckFails old new geo check.DeviceFault = Rose old.faults new.faults
DeviceCheckFails old new geo (check.Unsupported what b) = (v : Volume) → IsOn old geo v → IsUnsupported v what b

-- the cause of the same name
abbrev pub cause_of_check : CheckFault → Cause
cause_of_check check.NoMemory = NoMemory
cause_of_check check.DeviceFault = DeviceFault
cause_of_check (check.Unsupported what b) = Unsupported what b
