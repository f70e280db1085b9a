-- The rows tell it.
use Rattle.std.proofs.Common.{◌∙◌, ap}
use Rattle.o2_model.specs.Orders.{rising}
use Rattle.o2_judges_alloc.proofs.GroupsTold.{block_bits_told}
use Rattle.o2_judges_alloc.proofs.block_bits.block_alloc_bit.Goals as goal

pub returns-in-Ok : goal.returns-in-Ok
returns-in-Ok c = λ v few table are. ap rising (c.in-Ok.ensures ∙ block_bits_told v _ _ few table are)
