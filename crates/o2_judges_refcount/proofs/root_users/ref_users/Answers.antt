-- The rows tell it.
use Rattle.std.proofs.Common.{◌∙◌, ap}
use Rattle.o2_model.specs.Orders.{rising}
use Rattle.o2_judges_refcount.proofs.TreesTold.{users_told}
use Rattle.o2_judges_refcount.proofs.root_users.ref_users.Goals as goal

pub returns-in-Ok : goal.returns-in-Ok
returns-in-Ok c = λ v are table. ap rising (c.in-Ok.ensures ∙ users_told v _ _ are table)
