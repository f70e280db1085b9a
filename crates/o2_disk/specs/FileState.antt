-- What a contract knows of a disk over a file.
use Rattle.o2_disk.specs.Attaches.{attachments_of}
use Rattle.o2_disk.specs.Device.{DiskState}
use Rattle.o2_disk.specs.Untold.{untold}
use Rattle.o2_disk.specs.declared.file_disk.FileDisk.{FileDisk}

abbrev pub file_state : FileDisk → DiskState
file_state d = untold (attachments_of d.attaches.items) d.attached d.sectors d.faults
