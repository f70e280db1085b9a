-- What the groups of each chain have together.
use Rattle.std.specs.Prelude.{◌≡◌, ℕ, ◌%◌, ◌^◌, Bool, ◌&&◌, ◌==◌, List, filter, sum_by, unwrap_or}
use Rattle.std.specs.List.{list_all, enumerate_from}
use Rattle.std.specs.BTreeMap.{get}
use Rattle.std.specs.Ordering.{nat_cmp, ordering_then}
use Rattle.std.specs.declared.cmp.Ordering.{Ordering}
use Rattle.o2_ondisk.specs.declared.chain_rec.ChainRec.{ChainRec}
use Rattle.o2_tables.specs.declared.allocators.AllocatorRow.{AllocatorRow}
use Rattle.o2_tables.specs.declared.groups.GroupRow.{GroupRow}
use Rattle.o2_judges_alloc.specs.declared.sums.Bits.{Bits}
use Rattle.o2_judges_alloc.specs.declared.sums.ChainKey.{ChainKey}
use Rattle.o2_judges_alloc.specs.declared.sums.Sums.{Sums}

-- ---- over rows
abbrev pub is_in_chain : ChainKey → GroupRow → Bool
is_in_chain key row = row.group.of.block == key.allocator && row.group.chain == key.chain

-- what the groups of the chain have together, modulo 2^32
abbrev pub sums_over : List GroupRow → ChainKey → Bits
sums_over rows key = record {
  free = sum_by (λ r. r.free_bits) (filter (is_in_chain key) rows) % 2 ^ 32;
  total = sum_by (λ r. r.group.bits) (filter (is_in_chain key) rows) % 2 ^ 32;
}

-- ---- as they are kept
-- the order of chains, by allocator and then by number
abbrev pub chain_cmp : ChainKey → ChainKey → Ordering
chain_cmp a b = ordering_then (nat_cmp a.allocator b.allocator) (nat_cmp a.chain b.chain)

-- what is kept of the chain, nothing where it has no group
abbrev pub sums_of : Sums → ChainKey → Bits
sums_of sums key = unwrap_or (get chain_cmp sums.chains key) (record { free = 0; total = 0 })

-- These are the sums over the groups of each chain.
pub record AreSums (rows : List GroupRow) (sums : Sums) : Type 0 where
  pub each : (key : ChainKey) → sums_of sums key ≡ sums_over rows key

-- ---- what CHAIN_BITS asks
-- the record has the sums that are kept of its chain
abbrev pub is_sum : Sums → ℕ → ℕ → ChainRec → Bool
is_sum sums allocator chain r =
    r.free == (sums_of sums (record { allocator = allocator; chain = chain })).free
    && r.total == (sums_of sums (record { allocator = allocator; chain = chain })).total

abbrev pub has_sums_in_chains : Sums → AllocatorRow → Bool
has_sums_in_chains sums row = list_all (λ c. is_sum sums row.allocator.block c.0 c.1) (enumerate_from 0 row.chains)
