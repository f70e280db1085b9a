-- What was added, and what is added of the records that are left.
use Rattle.std.proofs.Common.{◌≡◌, ◌+◌, ◌%◌, ◌^◌, drop, sum_by}
use Rattle.o2_judges_alloc.proofs.totals.sum_of_totals.Given as goal

abbrev pub invariant-loop-record : goal.invariant-loop-record
invariant-loop-record l = (l.sum + sum_by (λ r. r.total) (drop l.record-index l.chains)) % 2 ^ 32 ≡ sum_by (λ r. r.total) l.chains % 2 ^ 32
