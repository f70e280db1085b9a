-- Sums over groups and chains are those of the definitions.
use Rattle.std.proofs.Common.{◌≡◌, ℕ, suc, ◌+◌, ◌%◌, ◌^◌, ◌<◌, ◌≤◌, ◌&&◌, ◌==◌, List, filter, sum_by, length, drop, get_or, refl, sym, ◌∙◌, ap, add-one, arith}
use Rattle.std.specs.List.{list_all, enumerate_from}
use Rattle.std.proofs.Math.Nat.{mod-add-mod, mod-eq_of_lt}
use Rattle.std.proofs.Math.Seq.{drop-cons}
use Rattle.std.proofs.lemmas.List.{drop_all}
use Rattle.std.proofs.lemmas.List.Sums.{sum_by-cons}
use Rattle.o2_ondisk.specs.declared.chain_rec.ChainRec.{ChainRec}
use Rattle.o2_model.specs.declared.check.Check.TheVariants as check
use Rattle.o2_model.specs.Faults.{fails_at}
use Rattle.o2_model.specs.Volume.{Volume}
use Rattle.o2_model.specs.Allocators.{allocators, is_sound_chain_header}
use Rattle.o2_model.specs.Groups.{group_desc}
use Rattle.o2_model.specs.Failing.{faults}
use Rattle.o2_model.specs.Checks.AllocTotals.{has_totals as model_totals}
use Rattle.o2_model.specs.Checks.ChainBits.{has_sums, has_sums_in_chains as model_sums_in_chains, groups_in_chain}
use Rattle.o2_tables.specs.declared.allocators.AllocatorRow.{AllocatorRow}
use Rattle.o2_tables.specs.declared.groups.GroupRow.{GroupRow}
use Rattle.o2_tables.specs.Rows.{IsAllocatorRow, IsAllocatorTable, IsGroupTable}
use Rattle.o2_judges_alloc.specs.AllocatorRows.{has_totals}
use Rattle.o2_judges_alloc.specs.ChainSums.{is_in_chain, is_sum, has_sums_in_chains, AreSums}
use Rattle.o2_judges_alloc.specs.declared.sums.Sums.{Sums}
use Rattle.o2_judges_alloc.proofs.RowsTold.{all_rows_tell, each_is, same_all, sums_of_rows}

-- ---- a sum that wraps
-- one item more
pub wraps : {A : Type 0} (f : A → ℕ) (xs : List A) (i n m all : ℕ) (d : A) → i < length xs → (n + sum_by f (drop i xs)) % m ≡ all
    → ((n + f (get_or xs i d)) % m + sum_by f (drop (i + 1) xs)) % m ≡ all
wraps f xs i n m all d low is =
    mod-add-mod (n + f (get_or xs i d)) m (sum_by f (drop (i + 1) xs))
    ∙ (ap (λ k. k % m) (moved n (f (get_or xs i d)) (sum_by f (drop (i + 1) xs)) (sum_by f (drop i xs)) first) ∙ is)
  where
    first : sum_by f (drop i xs) ≡ f (get_or xs i d) + sum_by f (drop (i + 1) xs)
    first = rw add-one (ap (sum_by f) (drop-cons xs i d low) ∙ sum_by-cons f (get_or xs i d) (drop (suc i) xs))

    moved : (n x rest all : ℕ) → all ≡ x + rest → n + x + rest ≡ n + all
    moved n x rest all e = omega (arith, e)

-- none is left
pub wrapped : {A : Type 0} (f : A → ℕ) (xs : List A) (i n m all : ℕ) → length xs ≤ i → n < m → (n + sum_by f (drop i xs)) % m ≡ all → n ≡ all
wrapped f xs i n m all past fits is =
    sym (mod-eq_of_lt fits) ∙ (ap (λ k. k % m) (nothing n) ∙ (ap (λ ys. (n + sum_by f ys) % m) (sym (drop_all i xs past)) ∙ is))
  where
    nothing : (n : ℕ) → n ≡ n + 0
    nothing n = omega arith

-- ---- ALLOC_TOTALS
row_totals : (v : Volume) (r : AllocatorRow) → IsAllocatorRow v r → has_totals r ≡ model_totals v r.allocator
unfolding model_totals
row_totals v r is = simp (is.used, is.total, is.chains) refl

pub totals_told : (v : Volume) (rows : List AllocatorRow) → IsAllocatorTable v rows → fails_at (λ r. r.allocator.block) has_totals rows ≡ faults v check.AllocTotals
unfolding faults
totals_told v rows table =
    all_rows_tell (λ r. r.allocator) (λ a. a.block) (model_totals v) has_totals rows (allocators v) table.allocators
    (each_is (λ r is. row_totals v r is) rows table.each)

-- ---- CHAIN_HEADER
pub headers_told : (v : Volume) (rows : List AllocatorRow) → IsAllocatorTable v rows → fails_at (λ r. r.allocator.block) (λ r. r.has_sound_header) rows ≡ faults v check.ChainHeader
unfolding faults
headers_told v rows table =
    all_rows_tell (λ r. r.allocator) (λ a. a.block) (is_sound_chain_header v) (λ r. r.has_sound_header) rows (allocators v) table.allocators
    (each_is (λ r is. is.header) rows table.each)

-- ---- CHAIN_BITS
module _ (v : Volume) (rows : List GroupRow) (sums : Sums) (table : IsGroupTable v rows) (are : AreSums rows sums) where
  free_is : (r : AllocatorRow) (chain : ℕ) → sum_by (λ g. g.free_bits) (filter (is_in_chain (record { allocator = r.allocator.block; chain = chain })) rows) ≡ sum_by (λ g. (group_desc v g.block).free_bits_count) (groups_in_chain v r.allocator chain)
  free_is r chain =
      sums_of_rows (λ g. g.group) (λ g. g.free_bits) (λ g. (group_desc v g.block).free_bits_count) (λ g. g.of.block == r.allocator.block) (λ g. g.chain == chain) rows (each_is (λ g is. is.free_bits) rows table.each)
      ∙ ap (λ gs. sum_by (λ g. (group_desc v g.block).free_bits_count) (filter (λ g. g.chain == chain) (filter (λ g. g.of.block == r.allocator.block) gs))) table.groups

  total_is : (r : AllocatorRow) (chain : ℕ) → sum_by (λ g. g.group.bits) (filter (is_in_chain (record { allocator = r.allocator.block; chain = chain })) rows) ≡ sum_by (λ g. g.bits) (groups_in_chain v r.allocator chain)
  total_is r chain =
      sums_of_rows (λ g. g.group) (λ g. g.group.bits) (λ g. g.bits) (λ g. g.of.block == r.allocator.block) (λ g. g.chain == chain) rows (each_is (λ g is. refl) rows table.each)
      ∙ ap (λ gs. sum_by (λ g. g.bits) (filter (λ g. g.chain == chain) (filter (λ g. g.of.block == r.allocator.block) gs))) table.groups

  one_is : (r : AllocatorRow) (chain : ℕ) (told : ChainRec) → is_sum sums r.allocator.block chain told ≡ has_sums v r.allocator chain told
  one_is r chain told =
      ap (λ b. told.free == b.free && told.total == b.total) (are.each (record { allocator = r.allocator.block; chain = chain }))
      ∙ (ap (λ n. told.free == n % 2 ^ 32 && told.total == sum_by (λ g. g.group.bits) (filter (is_in_chain (record { allocator = r.allocator.block; chain = chain })) rows) % 2 ^ 32) (free_is r chain)
      ∙ ap (λ n. told.free == sum_by (λ g. (group_desc v g.block).free_bits_count) (groups_in_chain v r.allocator chain) % 2 ^ 32 && told.total == n % 2 ^ 32) (total_is r chain))

  row_sums : (r : AllocatorRow) → IsAllocatorRow v r → has_sums_in_chains sums r ≡ model_sums_in_chains v r.allocator
  unfolding model_sums_in_chains
  row_sums r is =
      same_all (λ c. is_sum sums r.allocator.block c.0 c.1) (λ c. has_sums v r.allocator c.0 c.1) (λ c. one_is r c.0 c.1) (enumerate_from 0 r.chains)
      ∙ ap (λ cs. list_all (λ c. has_sums v r.allocator c.0 c.1) (enumerate_from 0 cs)) is.chains

  pub sums_told : (allocator_rows : List AllocatorRow) → IsAllocatorTable v allocator_rows → fails_at (λ r. r.allocator.block) (has_sums_in_chains sums) allocator_rows ≡ faults v check.ChainBits
  unfolding faults
  sums_told allocator_rows told =
      all_rows_tell (λ r. r.allocator) (λ a. a.block) (model_sums_in_chains v) (has_sums_in_chains sums) allocator_rows (allocators v) told.allocators
      (each_is (λ r is. row_sums r is) allocator_rows told.each)
