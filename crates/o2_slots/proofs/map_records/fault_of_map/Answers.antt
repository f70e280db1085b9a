-- By what the fault is.
use Rattle.std.proofs.Common.{refl}
use Rattle.o2_slots.proofs.map_records.fault_of_map.Goals as goal

pub returns-in-Bad : goal.returns-in-Bad
returns-in-Bad c = rw c.in-Bad.is refl

pub returns-in-NoMemory : goal.returns-in-NoMemory
returns-in-NoMemory c = rw c.in-NoMemory.is refl

pub returns-in-DeviceFault : goal.returns-in-DeviceFault
returns-in-DeviceFault c = rw c.in-DeviceFault.is refl
