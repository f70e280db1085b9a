-- The rows tell it.
use Rattle.std.proofs.Common.{◌∙◌, ap}
use Rattle.o2_model.specs.Orders.{rising}
use Rattle.o2_judges_alloc.proofs.SumsTold.{headers_told}
use Rattle.o2_judges_alloc.proofs.chain_headers.chain_header.Goals as goal

pub returns-in-Ok : goal.returns-in-Ok
returns-in-Ok c = λ v table. ap rising (c.in-Ok.ensures ∙ headers_told v _ table)
