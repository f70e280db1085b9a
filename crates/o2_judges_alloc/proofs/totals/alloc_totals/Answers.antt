-- The rows tell it.
use Rattle.std.proofs.Common.{◌∙◌, ap}
use Rattle.o2_model.specs.Orders.{rising}
use Rattle.o2_judges_alloc.proofs.SumsTold.{totals_told}
use Rattle.o2_judges_alloc.proofs.totals.alloc_totals.Goals as goal

pub returns-in-Ok : goal.returns-in-Ok
returns-in-Ok c = λ v table. ap rising (c.in-Ok.ensures ∙ totals_told v _ table)
