-- The clusters so far that the volume has.
use Rattle.std.proofs.Common.{◌≡◌, ◌+◌, ◌-◌, ◌*◌, ◌^◌, nat_lt, map}
use Rattle.std.specs.Prelude.{filter}
use Rattle.std.specs.List.{range_with_len}
use Rattle.o2_judges_super.proofs.clusters.within_volume.Given as goal

abbrev pub invariant-loop-k : goal.invariant-loop-k
invariant-loop-k l = l.found.items ≡ filter (λ c. nat_lt c l.geo.clusters) (map (λ k. 2 ^ (30 + 2 * k - l.geo.cluster_bits)) (range_with_len 0 l.k))
