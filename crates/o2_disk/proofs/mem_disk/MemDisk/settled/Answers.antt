use Rattle.std.proofs.Common.{arith}
use Rattle.o2_disk.specs.Attaches.{attachments_of}
use Rattle.o2_disk.proofs.Settled.{settled_base, agrees_base, untouched_base, touched_none}
use Rattle.o2_disk.proofs.mem_disk.MemDisk.settled.Goals as goal

pub invariant_of-result : goal.invariant_of-result
invariant_of-result c = record {
  few = omega arith;
  agrees = agrees_base c.args.maps.base c.args.maps.held c.new-2.result.items c.new-2.ensures.items c.args.maps.same;
  sound = c.args.maps.sound;
  untouched = untouched_base c.args.maps.base c.args.maps.held c.args.maps.same;
  touched = touched_none c.args.maps.held c.new-2.result.items c.new-2.ensures.items;
}

pub returns-clause-settled : goal.returns-clause-settled
returns-clause-settled c = settled_base (attachments_of c.new.result.items) _ c.args.sectors c.args.maps.base c.new-2.result.items _ c.new-2.ensures.items
