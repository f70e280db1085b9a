-- The bits that are left decide.
use Rattle.std.proofs.Common.{◌≡◌, ◌-◌}
use Rattle.std.specs.List.{range_with_len, list_all}
use Rattle.o2_judges_alloc.specs.ClusterRows.{is_set_for_owner}
use Rattle.o2_judges_alloc.proofs.cluster_bits.has_bits_of_claims.Given as goal

abbrev pub invariant-loop-k : goal.invariant-loop-k
invariant-loop-k l = list_all (is_set_for_owner l.claims l.row) (range_with_len l.k (l.bits - l.k)) ≡ list_all (is_set_for_owner l.claims l.row) (range_with_len 0 l.row.group.bits)
