-- What was added, and what is added of the runs that are left.
use Rattle.std.proofs.Common.{◌≡◌, ◌+◌, ◌%◌, ◌^◌, drop, sum_by}
use Rattle.o2_judges_inodes.proofs.clusters.clusters_in.Given as goal

abbrev pub invariant-loop-run : goal.invariant-loop-run
invariant-loop-run l = (l.sum + sum_by (λ r. r.clusters) (drop l.run-index l.runs)) % 2 ^ 32 ≡ sum_by (λ r. r.clusters) l.runs % 2 ^ 32
