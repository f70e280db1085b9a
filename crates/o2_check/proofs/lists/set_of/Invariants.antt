-- The blocks so far were put.
use Rattle.std.proofs.Common.{take}
use Rattle.o2_check.specs.Numbers.{AreNumbers}
use Rattle.o2_check.proofs.lists.set_of.Given as goal

abbrev pub invariant-loop-block : goal.invariant-loop-block
invariant-loop-block l = AreNumbers (take l.block-index l.blocks) l.set
