use Rattle.std.proofs.Common.{subst}
use Rattle.o2_disk.specs.Image.{Image}
use Rattle.o2_disk.specs.Device.{IsSettled}
use Rattle.o2_disk.specs.Memory.{disk_state}
use Rattle.o2_disk.proofs.Settled.{resized_same}
use Rattle.o2_disk.proofs.mem_disk.MemDisk.resized.Goals as goal

pub returns-clause-settled : goal.returns-clause-settled
returns-clause-settled c I told =
    let m = c.args.self.now in
    subst (λ (J : Image). IsSettled (disk_state c.settled.result) J) (resized_same c.args.sectors m.sectors c.min.result m.base m.held c.in_ok-maps.maps.base m.calls.items I c.min.ensures m.agrees told c.in_ok-maps.ensures) c.settled.ensures.settled
