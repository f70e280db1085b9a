-- INODE_CLUSTERS by rows.
use Rattle.std.proofs.Common.{◌≡◌, inl, inr, ℕ, ◌+◌, ◌/◌, ◌%◌, ◌^◌, Bool, true, false, ◌||◌, ◌==◌, List, [], ◌∷◌, map, flat_map, filter, find, sum_by, Option, Some, None, unwrap_or, if◌then◌else◌, refl, sym, ◌∙◌, ap, subst}
use Rattle.std.specs.Option.{option_map, option_map_or}
use Rattle.std.proofs.lemmas.Bool.{cases_Bool}
use Rattle.std.proofs.lemmas.List.{append-nil}
use Rattle.std.proofs.lemmas.List.Sums.{sum_by-cons}
use Rattle.o2_ondisk.specs.Bits.{has_bits}
use Rattle.o2_ondisk.specs.Dinodes.{last_part_place}
use Rattle.o2_model.specs.declared.allocator.Allocator.{Allocator}
use Rattle.o2_model.specs.declared.allocator.Group.{Group}
use Rattle.o2_model.specs.declared.check.Check.TheVariants as check
use Rattle.o2_model.specs.declared.geo.Geo.{Geo}
use Rattle.o2_model.specs.Faults.{fails_at, fails_unless}
use Rattle.o2_model.specs.Volume.{Volume, per_cluster, dinode}
use Rattle.o2_model.specs.LeafRecords.{clusters_in}
use Rattle.o2_model.specs.Extents.{Extents, nothing_read, read_list}
use Rattle.o2_model.specs.Extents.LeafRule.{ToClusters}
use Rattle.o2_model.specs.Inodes.{has_list, most_flags, most_in_dinode, extents, leaf_records, extent_lists_of, records_of}
use Rattle.o2_model.specs.Allocators.{allocators, are_clusters}
use Rattle.o2_model.specs.Groups.{groups_of, inodes_of}
use Rattle.o2_model.specs.Checks.InodeClusters.{allocator_clusters, cluster_total, has_cluster_total, unasked_flags}
use Rattle.o2_model.specs.Failing.{faults}
use Rattle.o2_tables.specs.declared.allocators.AllocatorRow.{AllocatorRow}
use Rattle.o2_tables.specs.declared.groups.GroupRow.{GroupRow}
use Rattle.o2_tables.specs.declared.inodes.InodeRow.{InodeRow}
use Rattle.o2_tables.specs.Rows.{run_of, IsInodeRow, IsAllocatorTable, IsGroupTable, IsInodeTable}
use Rattle.o2_judges_inodes.specs.ClusterRows.{kept_sum, AreSums, row_total, kept_total, AreTotals, has_clusters}
use Rattle.o2_judges_inodes.specs.declared.allocator_totals.AllocatorTotals.{AllocatorTotals}
use Rattle.o2_judges_inodes.specs.declared.group_clusters.GroupClusters.{GroupClusters}
use Rattle.o2_judges_inodes.proofs.RowsTold.{rows_lack}

-- ---- over items of rows
sum_of_mapped : {A B : Type 0} (f : A → B) (amount : B → ℕ) (xs : List A) → sum_by amount (map f xs) ≡ sum_by (λ x. amount (f x)) xs
sum_of_mapped f amount [] = refl
sum_of_mapped f amount (x ∷ xs) =
    sum_by-cons amount (f x) (map f xs) ∙ (ap (λ n. amount (f x) + n) (sum_of_mapped f amount xs) ∙ sym (sum_by-cons (λ y. amount (f y)) x xs))

sum_of_those : {A B : Type 0} (f : A → B) (amount : B → ℕ) (p : B → Bool) (xs : List A) → sum_by (λ x. amount (f x)) (filter (λ x. p (f x)) xs) ≡ sum_by amount (filter p (map f xs))
sum_of_those f amount p [] = refl
sum_of_those f amount p (x ∷ xs) = elim (cases_Bool (p (f x))) [
  | inr other ↦ rw other (sum_of_those f amount p xs)
  | inl is ↦ rw is
      (sum_by-cons (λ y. amount (f y)) x (filter (λ y. p (f y)) xs)
      ∙ (ap (λ n. amount (f x) + n) (sum_of_those f amount p xs) ∙ sym (sum_by-cons amount (f x) (filter p (map f xs)))))
]

find_mapped : {A B : Type 0} (f : A → B) (p : B → Bool) (total : A → ℕ) (told : B → ℕ) → ((x : A) → total x ≡ told (f x)) → (xs : List A)
    → option_map total (find (λ x. p (f x)) xs) ≡ option_map told (find p (map f xs))
find_mapped f p total told same [] = refl
find_mapped f p total told same (x ∷ xs) = elim (cases_Bool (p (f x))) [
  | inl here ↦ rw here (ap Some (same x))
  | inr later ↦ rw later (find_mapped f p total told same xs)
]

either_cut : (f : Allocator → ℕ) (o : Option Allocator) (own m : ℕ) → unwrap_or (option_map (λ a. f a % m) o) (own % m) ≡ option_map_or f o own % m
either_cut f None own m = refl
either_cut f (Some a) own m = refl

-- the numbers that lack something, one by one
fails_one_by_one : (holds : ℕ → Bool) (ns : List ℕ) → fails_at (λ n. n) holds ns ≡ flat_map (λ n. fails_unless n (holds n)) ns
fails_one_by_one holds [] = refl
fails_one_by_one holds (n ∷ ns) = elim (cases_Bool (holds n)) [
  | inl is ↦ rw is (fails_one_by_one holds ns)
  | inr fails ↦ rw fails (ap (λ ms. n ∷ ms) (fails_one_by_one holds ns))
]

-- the records of all lists are those of the dinode's own
of_one_list : (has : Bool) (read none : Extents) → none.leaves ≡ [] → flat_map (λ t. t.leaves) (if has then (if has then read else none) ∷ [] else []) ≡ (if has then read else none).leaves
of_one_list true read none empty = append-nil read.leaves
of_one_list false read none empty = sym empty

records_are : (v : Volume) (b : ℕ) → records_of v b ≡ leaf_records v b
unfolding extent_lists_of extents
records_are v b = of_one_list (has_list v b) (read_list v (ToClusters (most_flags v b)) b last_part_place (most_in_dinode v)) nothing_read refl

-- ---- the inodes of the volume
module _ (v : Volume) (sums : GroupClusters) (totals : AllocatorTotals) (group_rows : List GroupRow) (allocator_rows : List AllocatorRow)
    (group_table : IsGroupTable v group_rows) (allocator_table : IsAllocatorTable v allocator_rows) (are_sums : AreSums v.geo group_rows sums) (are_totals : AreTotals v.geo sums allocator_rows totals)
  where
    sum_is : (b : ℕ) → kept_sum sums b ≡ sum_by (λ g. g.bits / per_cluster v) (groups_of v b) % 2 ^ 32
    sum_is b =
        are_sums.each b
        ∙ ap (λ n. n % 2 ^ 32)
        (sum_of_those (λ r. r.group) (λ (g : Group). g.bits / per_cluster v) (λ g. g.of.block == b) group_rows
        ∙ ap (λ gs. sum_by (λ (g : Group). g.bits / per_cluster v) (filter (λ g. g.of.block == b) gs)) group_table.groups)

    total_is : (r : AllocatorRow) → row_total v.geo sums r ≡ allocator_clusters v r.allocator % 2 ^ 32
    total_is r = elim (cases_Bool (are_clusters r.allocator.bit_use)) [
      | inl bitmap ↦ rw bitmap refl
      | inr other ↦ rw other (sum_is r.allocator.block)
    ]

    kept_is : (b : ℕ) → kept_total totals b ≡ option_map (λ a. allocator_clusters v a % 2 ^ 32) (find (λ a. a.block == b) (allocators v))
    kept_is b =
        are_totals.each b
        ∙ (find_mapped (λ r. r.allocator) (λ a. a.block == b) (row_total v.geo sums) (λ a. allocator_clusters v a % 2 ^ 32) total_is allocator_rows
        ∙ ap (λ all. option_map (λ a. allocator_clusters v a % 2 ^ 32) (find (λ a. a.block == b) all)) allocator_table.allocators)

    own_is : (r : InodeRow) → IsInodeRow v r → sum_by (λ x. x.clusters) r.runs ≡ clusters_in (leaf_records v r.block)
    own_is r is = ap (sum_by (λ x. x.clusters)) is.runs ∙ (sum_of_mapped (run_of v) (λ x. x.clusters) (records_of v r.block) ∙ ap clusters_in (records_are v r.block))

    number_is : (r : InodeRow) → IsInodeRow v r → unwrap_or (kept_total totals r.block) (sum_by (λ x. x.clusters) r.runs % 2 ^ 32) ≡ cluster_total v r.block % 2 ^ 32
    unfolding cluster_total
    number_is r is =
        ap (λ o. unwrap_or o (sum_by (λ x. x.clusters) r.runs % 2 ^ 32)) (kept_is r.block)
        ∙ (ap (λ n. unwrap_or (option_map (λ a. allocator_clusters v a % 2 ^ 32) (find (λ a. a.block == r.block) (allocators v))) (n % 2 ^ 32)) (own_is r is)
        ∙ either_cut (allocator_clusters v) (find (λ a. a.block == r.block) (allocators v)) (clusters_in (leaf_records v r.block)) (2 ^ 32))

    row_is : (r : InodeRow) → IsInodeRow v r → has_clusters totals r ≡ has_cluster_total v r.block
    unfolding has_cluster_total
    row_is r is =
        ap (λ f. has_bits f.0 unasked_flags || r.clusters == unwrap_or (kept_total totals r.block) (sum_by (λ x. x.clusters) r.runs % 2 ^ 32)) is.flags
        ∙ (ap (λ n. has_bits (dinode v r.block).flags.0 unasked_flags || n == unwrap_or (kept_total totals r.block) (sum_by (λ x. x.clusters) r.runs % 2 ^ 32)) is.clusters
        ∙ ap (λ n. has_bits (dinode v r.block).flags.0 unasked_flags || (dinode v r.block).clusters == n) (number_is r is))

    rows_told : (rows : List InodeRow) → IsInodeTable v rows → fails_at (λ r. r.block) (has_clusters totals) rows ≡ faults v check.InodeClusters
    unfolding faults
    rows_told rows table = rows_lack v (has_cluster_total v) (has_clusters totals) rows table row_is ∙ fails_one_by_one (has_cluster_total v) (inodes_of v)

pub clusters_told : (v : Volume) (geo : Geo) (sums : GroupClusters) (totals : AllocatorTotals) (group_rows : List GroupRow) (allocator_rows : List AllocatorRow) (rows : List InodeRow)
    → v.geo ≡ geo → IsAllocatorTable v allocator_rows → IsGroupTable v group_rows → IsInodeTable v rows → AreSums geo group_rows sums → AreTotals geo sums allocator_rows totals
    → fails_at (λ r. r.block) (has_clusters totals) rows ≡ faults v check.InodeClusters
clusters_told v geo sums totals group_rows allocator_rows rows same allocator_table group_table table are_sums are_totals =
    rows_told v sums totals group_rows allocator_rows group_table allocator_table (subst (λ g. AreSums g group_rows sums) (sym same) are_sums)
    (subst (λ g. AreTotals g sums allocator_rows totals) (sym same) are_totals) rows table
