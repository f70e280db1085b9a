-- The roots are all roots.
use Rattle.std.proofs.lemmas.Result.{IfOk-weaker}
use Rattle.o2_refcount.proofs.Surveys.{survey_told}
use Rattle.o2_refcount.proofs.trees.refcount_trees.Goals as goal

pub returns-clause-told : goal.returns-clause-told
returns-clause-told g c = IfOk-weaker c.read_trees.result _ _ (λ survey read v shows are. survey_told v _ survey are (read v shows)) c.read_trees.ensures.read
