-- One row more.
use Rattle.o2_refcount.proofs.TreesTold.{row_more}
use Rattle.o2_refcount.proofs.tree.add_block.Goals as goal

pub returns-clause-rows : goal.returns-clause-rows
returns-clause-rows g c v shows blocks are = row_more v blocks c.args.b _ _ _ are c.in_ok-row.ensures.of (c.in_ok-row.ensures.row v shows) c.in_ok-put.ensures
