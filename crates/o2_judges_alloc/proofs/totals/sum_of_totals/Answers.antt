-- A record more, or none.
use Rattle.std.proofs.Common.{◌%◌, ◌^◌, sum_by, arith}
use Rattle.o2_judges_alloc.proofs.SumsTold.{wraps, wrapped}
use Rattle.o2_judges_alloc.proofs.totals.sum_of_totals.Goals as goal

pub loop-record-preserved : goal.loop-record-preserved
loop-record-preserved c =
    wraps (λ r. r.total) c.args.chains.now c.loop-record.record-index c.loop-record.sum (2 ^ 32) (sum_by (λ r. r.total) c.args.chains.now % 2 ^ 32) (record { free = 0; total = 0; blkno = 0 }) c.loop-record-test.true c.loop-record.invariant

pub returns : goal.returns
returns c =
    wrapped (λ r. r.total) c.args.chains.now c.loop-record.record-index c.loop-record.sum (2 ^ 32) (sum_by (λ r. r.total) c.args.chains.now % 2 ^ 32) c.loop-record-test.false (omega arith) c.loop-record.invariant
