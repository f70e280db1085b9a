-- Clusters that are free by the bits of some groups of the global bitmap.
use Rattle.std.specs.Prelude.{ℕ, Bool, ◌&&◌, not, ◌==◌, List, [], ◌∷◌}
use Rattle.std.specs.List.{range_with_len, list_any}
use Rattle.o2_model.specs.declared.allocator.Group.{Group as Walked}
use Rattle.o2_model.specs.declared.check.Check.TheVariants as check
use Rattle.o2_model.specs.Volume.{Volume}
use Rattle.o2_model.specs.Groups.{is_bit_set}
use Rattle.o2_model.specs.Checks.ClusterAllocBit.{cluster_of_bit}
use Rattle.o2_view.specs.OwnChecks.{OwnCheck}

-- a bit of the group stands for the cluster, and is clear
abbrev pub is_clear_in : Volume → ℕ → Walked → Bool
is_clear_in v c g = list_any (λ k. cluster_of_bit v g k == c && not (is_bit_set v g.block k)) (range_with_len 0 g.bits)

-- a clear bit of one of the groups stands for the cluster
abbrev pub is_free : Volume → List Walked → ℕ → Bool
is_free v groups c = list_any (is_clear_in v c) groups

-- Groups that a sound walk of the global bitmap gave are never at fault. Others, where no content is told, fail CHAIN_LINK.
abbrev pub no_bad_group : List OwnCheck
no_bad_group = record { check = check.ChainLink; faults = λ v. [] } ∷ []
