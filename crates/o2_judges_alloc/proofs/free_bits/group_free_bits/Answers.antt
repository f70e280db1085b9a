-- The rows tell it.
use Rattle.std.proofs.Common.{◌∙◌, ap}
use Rattle.o2_model.specs.Orders.{rising}
use Rattle.o2_judges_alloc.proofs.GroupsTold.{free_bits_told}
use Rattle.o2_judges_alloc.proofs.free_bits.group_free_bits.Goals as goal

pub returns-in-Ok : goal.returns-in-Ok
returns-in-Ok c = λ v table. ap rising (c.in-Ok.ensures ∙ free_bits_told v _ table)
