-- One index more.
use Rattle.std.proofs.Common.{◌∙◌}
use Rattle.o2_judges_index.proofs.Judged.{rows_more}
use Rattle.o2_judges_index.proofs.judge.judge_indexes.Goals as goal

pub loop-row-preserved : goal.loop-row-preserved
loop-row-preserved c = record {
  clusters = c.judge_index.ensures.clusters ∙ c.loop-row.invariant.clusters;
  told = λ v uses table all are.
      let so = c.loop-row.invariant.told v uses table all are in
      rows_more v c.args.indexes.now c.loop-row.row-index c.row-item.result c.loop-row.judged c.judge_index.new.judged c.loop-row.claims c.judge_index.new.claims c.loop-row-test.true c.row-item.is table so
      (λ is. c.in_ok-judge_index.ensures.told v _ uses is (c.loop-row.invariant.clusters ∙ all) so.owners);
}
