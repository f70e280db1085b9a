-- The rows tell it.
use Rattle.std.proofs.Common.{◌∙◌, ap}
use Rattle.o2_model.specs.Orders.{rising}
use Rattle.o2_judges_alloc.proofs.ClustersTold.{claimed_bits_told}
use Rattle.o2_judges_alloc.proofs.cluster_bits.cluster_alloc_bit.Goals as goal

pub returns-in-Ok : goal.returns-in-Ok
returns-in-Ok c = λ v few all table are. ap rising (c.in-Ok.ensures ∙ claimed_bits_told v _ few all are _ table)
