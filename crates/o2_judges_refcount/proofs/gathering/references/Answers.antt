-- The rows tell it.
use Rattle.std.proofs.lemmas.Result.{IfOk-weaker}
use Rattle.o2_judges_refcount.proofs.PairsTold.{references_told}
use Rattle.o2_judges_refcount.proofs.gathering.references.Goals as goal

pub returns : goal.returns
returns c = IfOk-weaker c.references_of_rows.result _ _ (λ r are v table. references_told v _ r are table) c.references_of_rows.ensures
