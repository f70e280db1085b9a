use Rattle.std.proofs.Common.{rules}
use Rattle.o2_disk.specs.Stored.{stored}
use Rattle.o2_disk.proofs.Puts.{cleared}
use Rattle.o2_disk.proofs.kept.keep.Goals as goal

pub returns-then-are_zeros-clause-put : goal.returns-then-are_zeros-clause-put
returns-then-are_zeros-clause-put c s = cleared c.args.at _ c.args.bytes.now (stored c.args.map.now s) (stored c.clear.new.map s) s (search rules) (c.are_zeros.ensures.0 c.if-are_zeros.true) (c.clear.ensures.put s)
