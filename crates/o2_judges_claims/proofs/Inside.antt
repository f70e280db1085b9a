-- The clusters of an inode's records are the volume's.
use Rattle.std.proofs.Common.{◌≡◌, inl, inr, ℕ, zero, suc, ◌+◌, ◌<◌, ◌≤◌, true, ◌==◌, List, [], ◌∷◌, map, arith}
use Rattle.std.specs.List.{AllByRecursion, range_with_len}
use Rattle.std.proofs.lemmas.Bool.{cases_Bool}
use Rattle.std.proofs.lemmas.Bool.Decides.{nat_tests}
use Rattle.o2_ondisk.specs.declared.extent_rec.ExtentRec.{ExtentRec}
use Rattle.o2_ondisk.specs.Dinodes.{last_part_place}
use Rattle.o2_model.specs.declared.leaf.Leaf.{Leaf}
use Rattle.o2_model.specs.Volume.{Volume}
use Rattle.o2_model.specs.Clusters.{cluster_of, are_clusters_in_range}
use Rattle.o2_model.specs.Extents.{Extents, is_sound_leaf, end_of, may_follow, leaf_clusters, leaf_of, with_leaf, with_seen, with_met, names_new_block, is_extent_block, is_sound_header, most_in_block, list_in_block, records_in_block, read_records, read_list, nothing_read, extent_list}
use Rattle.o2_model.specs.Extents.LeafRule.{ToClusters}
use Rattle.o2_model.specs.Inodes.{extents, has_list, most_flags, most_in_dinode, extent_lists_of, records_of}
use Rattle.o2_model.specs.LeafRecords.{is_refcounted}
use Rattle.o2_model.specs.Checks.DupClusters.{ClusterUse, uses_under, uses_by}
use Rattle.o2_judges_alloc.proofs.GoodGroups.{each_push}
use Rattle.o2_judges_alloc.proofs.RowsTold.{each_is}
use Rattle.o2_judges_claims.proofs.Members.{each_append, each_flat}

-- the record's clusters end where the volume does, or before
abbrev pub IsInside : Volume → Leaf → Type 0
IsInside v leaf = cluster_of v leaf.block + leaf.clusters ≤ v.geo.clusters

sound_inside : (v : Volume) (m low : ℕ) (leaf : Leaf) → is_sound_leaf v m low leaf ≡ true → IsInside v leaf
unfolding is_sound_leaf are_clusters_in_range
sound_inside v m low leaf good = grind (arith, nat_tests)

-- ---- the records of a reading
met_keeps : (v : Volume) (b : ℕ) (t : Extents) → AllByRecursion (IsInside v) t.leaves → AllByRecursion (IsInside v) (with_met v b t).leaves
unfolding with_met
met_keeps v b t all = elim (cases_Bool (is_sound_header (most_in_block v) (list_in_block v b).header)) [ inl sound ↦ rw sound all | inr bad ↦ rw bad all ]

reading_inside : (v : Volume) (m depth holder low : ℕ) (rs : List ExtentRec) (t : Extents) → AllByRecursion (IsInside v) t.leaves
    → AllByRecursion (IsInside v) (read_records v (ToClusters m) depth holder low rs t).leaves
reading_inside v m depth holder low [] t all = all
reading_inside v m zero holder low (r ∷ rs) t all = elim (cases_Bool (leaf_clusters r == 0)) [
  | inl empty ↦ rw empty (reading_inside v m zero holder low rs t all)
  | inr some ↦ elim (cases_Bool (may_follow v (ToClusters m) t.leaves (leaf_of r))) [
    | inr bad ↦ rw (some, bad) all
    | inl sound ↦
        rw (some, sound)
        (reading_inside v m zero holder low rs (with_leaf t (leaf_of r)) (each_push (IsInside v) t.leaves (leaf_of r) all (sound_inside v m (end_of t.leaves) (leaf_of r) sound)))
  ]
]
reading_inside v m (suc depth) holder low (r ∷ rs) t all = elim (cases_Bool (names_new_block v low t.seen r)) [
  | inr old ↦ rw old all
  | inl new ↦ elim (cases_Bool (is_extent_block v depth r.blkno)) [
    | inr bad ↦ rw (new, bad) all
    | inl good ↦
        rw (new, good) (reading_inside v m (suc depth) holder (r.cpos + 1) rs _
        (reading_inside v m depth r.blkno 0 (records_in_block v r.blkno) (with_met v r.blkno (with_seen t r.blkno)) (met_keeps v r.blkno (with_seen t r.blkno) all)))
  ]
]

pub list_inside : (v : Volume) (m holder place most : ℕ) → AllByRecursion (IsInside v) (read_list v (ToClusters m) holder place most).leaves
list_inside v m holder place most =
    let list = extent_list place (v.at holder) in
    elim (cases_Bool (is_sound_header most list.header)) [
      | inr bad ↦ rw bad tt
      | inl sound ↦ rw sound (reading_inside v m list.header.tree_depth holder 0 list.records nothing_read tt)
    ]

-- ---- of an inode
extents_inside : (v : Volume) (b : ℕ) → AllByRecursion (IsInside v) (extents v b).leaves
unfolding extents
extents_inside v b = elim (cases_Bool (has_list v b)) [
  | inr none ↦ rw none tt
  | inl has ↦ rw has (list_inside v (most_flags v b) b last_part_place (most_in_dinode v))
]

records_inside : (v : Volume) (b : ℕ) → AllByRecursion (IsInside v) (records_of v b)
unfolding extent_lists_of
records_inside v b = elim (cases_Bool (has_list v b)) [
  | inr none ↦ rw none tt
  | inl has ↦ rw has (each_append (IsInside v) (extents v b).leaves [] (extents_inside v b) tt)
]

-- ---- the uses by an inode
abbrev pub IsUseInside : Volume → ClusterUse → Type 0
IsUseInside v u = u.cluster < v.geo.clusters

run_inside : (v : Volume) (b : ℕ) (leaf : Leaf) → IsInside v leaf → AllByRecursion (IsUseInside v) (uses_under v b leaf)
run_inside v b leaf inside = go (cluster_of v leaf.block) leaf.clusters inside
  where
    go : (a n : ℕ) → a + n ≤ v.geo.clusters → AllByRecursion (IsUseInside v) (map (λ c. record { inode = b; cluster = c; is_shared = is_refcounted leaf }) (range_with_len a n))
    go a zero fits = tt
    go a (suc n) fits = (omega (arith, fits), go (a + 1) n (omega (arith, fits)))

pub uses_inside : (v : Volume) (b : ℕ) → AllByRecursion (IsUseInside v) (uses_by v b)
unfolding uses_by
uses_inside v b = each_flat (IsUseInside v) (uses_under v b) (records_of v b) (each_is (λ leaf inside. run_inside v b leaf inside) (records_of v b) (records_inside v b))
