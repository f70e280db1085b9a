-- The rows tell it.
use Rattle.std.proofs.Common.{◌∙◌, ap}
use Rattle.o2_model.specs.Orders.{rising}
use Rattle.o2_judges_alloc.proofs.SumsTold.{sums_told}
use Rattle.o2_judges_alloc.proofs.chain_sums.chain_bits.Goals as goal

pub returns-in-Ok : goal.returns-in-Ok
returns-in-Ok c = λ v allocators groups. ap rising (c.in-Ok.ensures ∙ sums_told v _ _ groups c.in_ok-sums.ensures _ allocators)
