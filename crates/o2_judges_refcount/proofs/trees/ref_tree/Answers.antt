-- The rows tell it.
use Rattle.std.proofs.Common.{◌∙◌, ap}
use Rattle.std.proofs.lemmas.Result.{IfOk-weaker}
use Rattle.o2_model.specs.Orders.{rising}
use Rattle.o2_judges_refcount.proofs.TreesTold.{tree_told}
use Rattle.o2_judges_refcount.proofs.trees.ref_tree.Goals as goal

pub returns : goal.returns
returns c = IfOk-weaker c.with_found.result _ _ (λ blocks is v table found. ap rising (is ∙ tree_told v _ _ table found)) c.with_found.ensures
