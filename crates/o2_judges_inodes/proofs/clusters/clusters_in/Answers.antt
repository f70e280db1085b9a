-- A run more, or none.
use Rattle.std.proofs.Common.{◌%◌, ◌^◌, sum_by, false, arith}
use Rattle.o2_judges_inodes.proofs.WrappedSums.{wraps, wrapped}
use Rattle.o2_judges_inodes.proofs.clusters.clusters_in.Goals as goal

pub loop-run-preserved : goal.loop-run-preserved
loop-run-preserved c =
    wraps (λ r. r.clusters) c.args.runs.now c.loop-run.run-index c.loop-run.sum (2 ^ 32) (sum_by (λ r. r.clusters) c.args.runs.now % 2 ^ 32) (record { start = 0; clusters = 0; is_shared = false }) c.loop-run-test.true c.loop-run.invariant

pub returns : goal.returns
returns c =
    wrapped (λ r. r.clusters) c.args.runs.now c.loop-run.run-index c.loop-run.sum (2 ^ 32) (sum_by (λ r. r.clusters) c.args.runs.now % 2 ^ 32) c.loop-run-test.false (omega arith) c.loop-run.invariant
