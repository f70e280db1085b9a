-- One record more.
use Rattle.std.proofs.Common.{arith, get_or, ◌∙◌, ap, below_more}
use Rattle.o2_refcount.specs.Recounts.{recounted}
use Rattle.o2_refcount.proofs.CountedBytes.{same_record, counted_here, counted_other}
use Rattle.o2_refcount.proofs.block_edit.change_counts.Goals as goal

pub loop-k-preserved : goal.loop-k-preserved
loop-k-preserved c =
    let k = c.loop-k.k in
    let old = c.loop-k.bytes in
    let new = c.change_count.new.bytes in
    let first = c.args.bytes.now in
    record {
      counted = below_more _ _
          (λ j low. counted_other old new k c.change_count.ensures.others j low ∙ c.loop-k.invariant.counted j low)
          (counted_here old new k c.change_count.ensures.others (get_or c.args.counts.now k 0) c.change_count.ensures.count
          ∙ ap (λ r. recounted r (get_or c.args.counts.now k 0)) (same_record first old k (λ i from to. c.loop-k.invariant.others i (λ j low at under. omega (arith, from, low, under)))));
      others = λ i out. c.change_count.ensures.others i (λ from under. out k (omega arith) from under) ∙ c.loop-k.invariant.others i (λ j low. out j (omega (arith, low)));
    }

pub returns : goal.returns
returns c = record {
  counted = λ k low. c.loop-k.invariant.counted k (omega (arith, low));
  others = λ i out. c.loop-k.invariant.others i (λ k low. out k (omega (arith, low)));
  size = c.loop-k.auto.bytes;
}
