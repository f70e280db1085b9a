-- CHAIN_BITS, number 45, at the allocator: c_free and c_total of each chain are the sums of bg_free_bits_count and bg_bits over
-- its groups.
use Rattle.std.specs.Prelude.{ℕ, ◌%◌, ◌^◌, Bool, ◌&&◌, ◌==◌, List, filter, sum_by}
use Rattle.std.specs.List.{list_all, enumerate_from}
use Rattle.o2_ondisk.specs.declared.chain_rec.ChainRec.{ChainRec}
use Rattle.o2_model.specs.declared.allocator.Allocator.{Allocator}
use Rattle.o2_model.specs.declared.allocator.Group.{Group}
use Rattle.o2_model.specs.Faults.{fails_at}
use Rattle.o2_model.specs.Volume.{Volume}
use Rattle.o2_model.specs.Allocators.{allocators, chains}
use Rattle.o2_model.specs.Groups.{groups_of, group_desc}

-- the groups of an allocator's chain
abbrev pub groups_in_chain : Volume → Allocator → ℕ → List Group
groups_in_chain v a chain = filter (λ g. g.chain == chain) (groups_of v a.block)

abbrev pub has_sums : Volume → Allocator → ℕ → ChainRec → Bool
has_sums v a chain r =
    r.free == sum_by (λ g. (group_desc v g.block).free_bits_count) (groups_in_chain v a chain) % 2 ^ 32
    && r.total == sum_by (λ g. g.bits) (groups_in_chain v a chain) % 2 ^ 32

unfoldable pub has_sums_in_chains : Volume → Allocator → Bool
has_sums_in_chains v a = list_all (λ c. has_sums v a c.0 c.1) (enumerate_from 0 (chains v a))

abbrev pub chain_bits_faults : Volume → List ℕ
chain_bits_faults v = fails_at (λ a. a.block) (has_sums_in_chains v) (allocators v)
