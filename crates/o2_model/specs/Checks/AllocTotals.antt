-- ALLOC_TOTALS, number 46, at the allocator: i_total is the sum of c_total over its chains, and i_used is that less the sum of
-- c_free.
use Rattle.std.specs.Prelude.{ℕ, ◌+◌, ◌%◌, ◌^◌, Bool, ◌&&◌, ◌==◌, List, sum_by}
use Rattle.o2_model.specs.declared.allocator.Allocator.{Allocator}
use Rattle.o2_model.specs.Faults.{fails_at}
use Rattle.o2_model.specs.Volume.{Volume, dinode}
use Rattle.o2_model.specs.Allocators.{allocators, chains, used_of, total_of}

abbrev pub sum_of_totals : Volume → Allocator → ℕ
sum_of_totals v a = sum_by (λ r. r.total) (chains v a)

abbrev pub sum_of_free : Volume → Allocator → ℕ
sum_of_free v a = sum_by (λ r. r.free) (chains v a)

unfoldable pub has_totals : Volume → Allocator → Bool
has_totals v a =
    total_of (dinode v a.block).role_data == sum_of_totals v a % 2 ^ 32
    && (used_of (dinode v a.block).role_data + sum_of_free v a) % 2 ^ 32 == sum_of_totals v a % 2 ^ 32

abbrev pub alloc_totals_faults : Volume → List ℕ
alloc_totals_faults v = fails_at (λ a. a.block) (has_totals v) (allocators v)
