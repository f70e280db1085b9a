-- A mask fits a byte.
use Rattle.std.proofs.Common.{arith}
use Rattle.o2_chain.proofs.Bitmaps.{few_ones}
use Rattle.o2_chain.proofs.bits.mask.Goals as goal

pub overflow_sub-result : goal.overflow_sub-result
overflow_sub-result c = omega (arith, few_ones c.args.first c.args.end c.requires.order c.requires.within)
