-- The rows tell it.
use Rattle.std.proofs.Common.{◌∙◌, ap}
use Rattle.std.proofs.lemmas.Result.{IfOk-weaker}
use Rattle.o2_model.specs.Orders.{rising}
use Rattle.o2_judges_refcount.proofs.CoversTold.{cover_told}
use Rattle.o2_judges_refcount.proofs.root_covers.ref_cover.Goals as goal

pub returns : goal.returns
returns c =
    IfOk-weaker c.not_covering.result _ _
    (λ blocks is v inodes are trees. ap rising (is ∙ cover_told v _ _ _ _ _ are c.in_ok-covers.ensures c.in_ok-missing.ensures inodes trees)) c.not_covering.ensures
