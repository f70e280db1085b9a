-- The rows tell it.
use Rattle.std.proofs.Common.{◌∙◌, ap}
use Rattle.std.proofs.lemmas.Result.{IfOk-weaker}
use Rattle.o2_model.specs.Orders.{rising}
use Rattle.o2_judges_refcount.proofs.TreesTold.{counts_told}
use Rattle.o2_judges_refcount.proofs.record_counts.ref_count.Goals as goal

pub returns : goal.returns
returns c = IfOk-weaker c.with_other_count.result _ _ (λ blocks is v are table. ap rising (is ∙ counts_told v _ _ are table)) c.with_other_count.ensures
