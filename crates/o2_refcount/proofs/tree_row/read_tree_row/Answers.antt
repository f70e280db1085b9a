-- Clause by clause.
use Rattle.std.proofs.lemmas.Result.{IfOk-weaker}
use Rattle.o2_refcount.proofs.tree_row.read_tree_row.Goals as goal

pub returns-clause-row : goal.returns-clause-row
returns-clause-row g c = IfOk-weaker c.read_whole.result _ _ (λ tree told v shows. ((told v shows).row, (told v shows).of)) c.read_whole.ensures.told
