-- It counts unless an earlier one is in its block.
use Rattle.std.proofs.Common.{sym, ◌∙◌}
use Rattle.std.proofs.lemmas.Result.{on_ok_weaker}
use Rattle.o2_judges_inodes.proofs.TotalsKept.{later_total, first_total}
use Rattle.o2_judges_inodes.proofs.allocator_totals.AllocatorTotals.add.Goals as goal

pub returns-then-contains_key : goal.returns-then-contains_key
returns-then-contains_key c = λ rows are. later_total _ _ rows c.args.row.now _ (sym c.contains_key.ensures ∙ c.if-contains_key.true) are

pub returns : goal.returns
returns c =
    on_ok_weaker c.put_total.result
    (λ put rows are. first_total _ _ rows c.args.row.now c.args.self.now _ c.clusters_of-total.result (sym c.contains_key.ensures ∙ c.if-contains_key.false) c.clusters_of-total.ensures put are)
    c.put_total.ensures
