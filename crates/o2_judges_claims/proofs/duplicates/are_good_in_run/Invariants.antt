-- The clusters that are left decide.
use Rattle.std.proofs.Common.{◌≡◌, ◌+◌, ◌-◌}
use Rattle.std.specs.List.{range_with_len, list_all}
use Rattle.o2_judges_claims.specs.Uses.{is_free_and_good}
use Rattle.o2_judges_claims.proofs.duplicates.are_good_in_run.Given as goal

abbrev pub invariant-loop-k : goal.invariant-loop-k
invariant-loop-k l =
    list_all (λ k. is_free_and_good l.structures l.uses (l.run.start + k)) (range_with_len l.k (l.run.clusters - l.k))
    ≡ list_all (λ k. is_free_and_good l.structures l.uses (l.run.start + k)) (range_with_len 0 l.run.clusters)
