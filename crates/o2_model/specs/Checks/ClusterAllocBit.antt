-- CLUSTER_ALLOC_BIT, number 42, at the group of the global bitmap: its set bits are just those of claimed clusters.
use Rattle.std.specs.Prelude.{ℕ, ◌+◌, ◌*◌, Bool, List, filter}
use Rattle.std.specs.Bool.{beq}
use Rattle.std.specs.List.{list_all, range_with_len}
use Rattle.o2_model.specs.declared.allocator.Group.{Group}
use Rattle.o2_model.specs.Faults.{fails_at}
use Rattle.o2_model.specs.Volume.{Volume}
use Rattle.o2_model.specs.ClusterGroups.{group_size, group_index}
use Rattle.o2_model.specs.Groups.{groups, is_bit_set, is_of_clusters}
use Rattle.o2_model.specs.Claims.{claims_of, is_claimed}

-- the cluster that bit k of a group of the global bitmap stands for
abbrev pub cluster_of_bit : Volume → Group → ℕ → ℕ
cluster_of_bit v g k = group_index v g.block * group_size v + k

unfoldable pub has_bits_of_claims : Volume → Group → Bool
has_bits_of_claims v g =
    list_all (λ k. beq (is_bit_set v g.block k) (is_claimed (claims_of v) (cluster_of_bit v g k))) (range_with_len 0 g.bits)

abbrev pub cluster_alloc_bit_faults : Volume → List ℕ
cluster_alloc_bit_faults v = fails_at (λ g. g.block) (has_bits_of_claims v) (filter is_of_clusters (groups v))
