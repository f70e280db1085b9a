-- The clusters so far, and those of the bits that are left.
use Rattle.std.proofs.Common.{◌≡◌, ◌+◌, ◌-◌, ◌++◌, not, map, filter}
use Rattle.std.specs.List.{range_with_len}
use Rattle.o2_model.specs.Groups.{is_bit_set_in}
use Rattle.o2_windows.proofs.window_clusters.clear_clusters.Given as goal

abbrev pub invariant-loop-k : goal.invariant-loop-k
invariant-loop-k l =
    l.clusters.items ++ map (λ k. l.start + k) (filter (λ k. not (is_bit_set_in 0 l.bits k)) (range_with_len l.k (l.total - l.k)))
    ≡ map (λ k. l.start + k) (filter (λ k. not (is_bit_set_in 0 l.bits k)) (range_with_len 0 l.total))
