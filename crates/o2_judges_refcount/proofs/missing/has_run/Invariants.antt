-- The clusters that are left decide.
use Rattle.std.proofs.Common.{◌≡◌, ◌+◌, ◌-◌}
use Rattle.std.specs.List.{range_with_len, list_all}
use Rattle.o2_judges_refcount.specs.CoverRows.{has_cluster, has_run}
use Rattle.o2_judges_refcount.proofs.missing.has_run.Given as goal

abbrev pub invariant-loop-k : goal.invariant-loop-k
invariant-loop-k l = list_all (has_cluster l.covers l.root) (range_with_len (l.start + l.k) (l.fn.run.clusters - l.k)) ≡ has_run l.covers l.root l.fn.run
