-- The rows tell it.
use Rattle.std.proofs.Common.{◌∙◌, ap}
use Rattle.o2_model.specs.Orders.{rising}
use Rattle.o2_judges_claims.proofs.Dups.{dup_told}
use Rattle.o2_judges_claims.proofs.duplicates.dup_clusters.Goals as goal

pub returns-in-Ok : goal.returns-in-Ok
returns-in-Ok c = λ v all own table. ap rising (c.in-Ok.ensures ∙ dup_told v _ all own _ table c.in_ok-uses.uses c.in_ok-uses.ensures)
