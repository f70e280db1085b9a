-- REF_COVER, number 31, at the root of the tree: its records have just the clusters under refcounted records of its inodes, and
-- those of one record are all referred to equally often.
use Rattle.std.specs.Prelude.{ℕ, Bool, ◌&&◌, ◌==◌, nat_lt, List, flat_map, filter}
use Rattle.std.specs.List.{range_with_len, list_all, list_any}
use Rattle.o2_ondisk.specs.declared.refcount_rec.RefcountRec.{RefcountRec}
use Rattle.o2_model.specs.Words.{among}
use Rattle.o2_model.specs.Faults.{fails_at}
use Rattle.o2_model.specs.Volume.{Volume}
use Rattle.o2_model.specs.Files.{shared_references, times_in}
use Rattle.o2_model.specs.RefcountTrees.{refcount_roots, inodes_of_tree, is_refcount_block, refcounts}

-- each reference of the tree's inodes to a cluster by a refcounted record
unfoldable pub tree_references : Volume → ℕ → List ℕ
tree_references v root = flat_map (shared_references v) (inodes_of_tree v root)

-- the clusters of a record
abbrev pub record_clusters : RefcountRec → List ℕ
record_clusters r = range_with_len r.cpos r.clusters

-- they are all referred to so often as the first, and at least once
unfoldable pub is_shared_evenly : List ℕ → RefcountRec → Bool
is_shared_evenly references r =
    nat_lt 0 (times_in references r.cpos)
    && list_all (λ c. times_in references c == times_in references r.cpos) (record_clusters r)

-- a record of the tree has the cluster
abbrev pub is_covered : Volume → ℕ → ℕ → Bool
is_covered v root c = list_any (λ p. among (record_clusters p.fields) c) (refcounts v root).records

unfoldable pub is_covering : Volume → ℕ → Bool
is_covering v root =
    list_all (λ p. is_shared_evenly (tree_references v root) p.fields) (refcounts v root).records
    && list_all (is_covered v root) (tree_references v root)

abbrev pub ref_cover_faults : Volume → List ℕ
ref_cover_faults v = fails_at (λ root. root) (is_covering v) (filter (is_refcount_block v) (refcount_roots v))
