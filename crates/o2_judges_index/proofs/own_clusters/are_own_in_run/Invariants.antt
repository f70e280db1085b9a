-- The clusters that are left decide.
use Rattle.std.proofs.Common.{◌≡◌, ◌+◌, ◌-◌}
use Rattle.std.specs.List.{range_with_len, list_all}
use Rattle.o2_judges_index.specs.IndexRows.{is_new_once}
use Rattle.o2_judges_index.proofs.own_clusters.are_own_in_run.Given as goal

abbrev pub invariant-loop-k : goal.invariant-loop-k
invariant-loop-k l =
    list_all (λ k. is_new_once l.claims l.counts (l.run.start + k)) (range_with_len l.k (l.run.clusters - l.k))
    ≡ list_all (λ k. is_new_once l.claims l.counts (l.run.start + k)) (range_with_len 0 l.run.clusters)
