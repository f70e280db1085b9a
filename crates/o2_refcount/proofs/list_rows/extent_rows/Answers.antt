-- Each row tells what its extent block says.
use Rattle.std.proofs.lemmas.Result.{IfOk-weaker}
use Rattle.o2_refcount.proofs.TreesTold.{extent_rows_told}
use Rattle.o2_refcount.proofs.list_rows.extent_rows.Goals as goal

pub returns : goal.returns
returns c = IfOk-weaker c.rows_of_blocks.result _ _ (λ rows is v listed are. extent_rows_told v listed _ _ is are) c.rows_of_blocks.ensures
