-- The clusters of an inode by its row.
use Rattle.std.specs.Prelude.{◌≡◌, ℕ, ◌-◌, ◌/◌, ◌%◌, ◌^◌, Bool, ◌||◌, ◌==◌, List, filter, find, sum_by, Option, unwrap_or, if◌then◌else◌}
use Rattle.std.specs.BTreeMap.{get}
use Rattle.std.specs.Option.{option_map}
use Rattle.std.specs.Ordering.{nat_cmp}
use Rattle.o2_ondisk.specs.Bits.{has_bits}
use Rattle.o2_model.specs.declared.geo.Geo.{Geo}
use Rattle.o2_model.specs.Allocators.{are_clusters}
use Rattle.o2_model.specs.Checks.InodeClusters.{unasked_flags}
use Rattle.o2_tables.specs.declared.allocators.AllocatorRow.{AllocatorRow}
use Rattle.o2_tables.specs.declared.groups.GroupRow.{GroupRow}
use Rattle.o2_tables.specs.declared.inodes.InodeRow.{InodeRow}
use Rattle.o2_judges_inodes.specs.declared.allocator_totals.AllocatorTotals.{AllocatorTotals}
use Rattle.o2_judges_inodes.specs.declared.group_clusters.GroupClusters.{GroupClusters}

-- ---- groups
-- the whole clusters that the blocks of the group's bits fill
abbrev pub row_clusters : Geo → GroupRow → ℕ
row_clusters geo r = r.group.bits / 2 ^ (geo.cluster_bits - geo.block_bits)

-- the groups of the allocator whose dinode is in that block
abbrev pub is_of : ℕ → GroupRow → Bool
is_of b r = r.group.of.block == b

-- what is kept of that allocator, nothing where it has no group
abbrev pub kept_sum : GroupClusters → ℕ → ℕ
kept_sum sums b = unwrap_or (get nat_cmp sums.sums b) 0

-- These are the clusters of each allocator's groups, modulo 2^32.
pub record AreSums (geo : Geo) (rows : List GroupRow) (sums : GroupClusters) : Type 0 where
  pub each : (b : ℕ) → kept_sum sums b ≡ sum_by (row_clusters geo) (filter (is_of b) rows) % 2 ^ 32

-- ---- allocators
-- the clusters of the allocator, modulo 2^32: all of the volume's for the global bitmap
abbrev pub row_total : Geo → GroupClusters → AllocatorRow → ℕ
row_total geo sums r = if are_clusters r.allocator.bit_use then geo.clusters % 2 ^ 32 else kept_sum sums r.allocator.block

-- what is kept of that block
abbrev pub kept_total : AllocatorTotals → ℕ → Option ℕ
kept_total totals b = get nat_cmp totals.totals b

-- These are the clusters of the allocators, where two are in one block those of the first.
pub record AreTotals (geo : Geo) (sums : GroupClusters) (rows : List AllocatorRow) (totals : AllocatorTotals) : Type 0 where
  pub each : (b : ℕ) → kept_total totals b ≡ option_map (row_total geo sums) (find (λ r. r.allocator.block == b) rows)

-- ---- inodes
-- it is a local alloc or a truncate log
abbrev pub is_unasked : InodeRow → Bool
is_unasked r = has_bits r.flags.0 unasked_flags

-- i_clusters is the number of the allocator's clusters, or without one of those in the inode's runs; of some it is not asked
abbrev pub has_clusters : AllocatorTotals → InodeRow → Bool
has_clusters totals r = is_unasked r || r.clusters == unwrap_or (kept_total totals r.block) (sum_by (λ x. x.clusters) r.runs % 2 ^ 32)
