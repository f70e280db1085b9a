use Rattle.std.proofs.Common.{◌+◌, take}
use Rattle.o2_disk.proofs.Left.{chosen_outcome}
use Rattle.o2_disk.proofs.mem_disk.MemDisk.stopped_at.Goals as goal

pub returns-in_err-maps-clause-outcome : goal.returns-in_err-maps-clause-outcome
returns-in_err-maps-clause-outcome c = chosen_outcome c.args.self.now.sectors c.args.choice c.args.self.now.base (take (c.args.call + 1) c.args.self.now.calls.items)

pub returns-clause-outcome : goal.returns-clause-outcome
returns-clause-outcome c = chosen_outcome c.args.self.now.sectors c.args.choice c.args.self.now.base (take (c.args.call + 1) c.args.self.now.calls.items)
