use Rattle.std.proofs.Common.{subst}
use Rattle.o2_disk.specs.Image.{Image}
use Rattle.o2_disk.specs.Device.{IsSettled}
use Rattle.o2_disk.specs.Memory.{disk_state}
use Rattle.o2_disk.proofs.Settled.{zeros_all}
use Rattle.o2_disk.proofs.mem_disk.MemDisk.new.Goals as goal

pub returns-clause-settled : goal.returns-clause-settled
returns-clause-settled c = subst (λ (I : Image). IsSettled (disk_state c.settled.result) I) (zeros_all c.args.sectors c.new.result.base c.new.ensures) c.settled.ensures.settled
