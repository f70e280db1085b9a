-- What a leaf record of an extent list has.
use Rattle.std.specs.Prelude.{ℕ, ◌+◌, ◌*◌, Bool, true, ◌&&◌, ◌==◌, List, [], ◌∷◌, sum_by}
use Rattle.std.specs.List.{range_with_len, list_all}
use Rattle.o2_ondisk.specs.Bits.{has_bits, refcounted_extent_flag}
use Rattle.o2_model.specs.declared.leaf.Leaf.{Leaf}
use Rattle.o2_model.specs.Volume.{Volume, per_cluster}
use Rattle.o2_model.specs.Clusters.{cluster_of}

-- the clusters under the record
abbrev pub clusters_under : Volume → Leaf → List ℕ
clusters_under v leaf = range_with_len (cluster_of v leaf.block) leaf.clusters

-- the blocks under the record
abbrev pub blocks_under : Volume → Leaf → List ℕ
blocks_under v leaf = range_with_len leaf.block (leaf.clusters * per_cluster v)

-- how many clusters are under these records
abbrev pub clusters_in : List Leaf → ℕ
clusters_in leaves = sum_by (λ leaf. leaf.clusters) leaves

-- the record is marked `OCFS2_EXT_REFCOUNTED`
abbrev pub is_refcounted : Leaf → Bool
is_refcounted leaf = has_bits leaf.flags refcounted_extent_flag

-- none of the records is marked
abbrev pub have_no_flags : List Leaf → Bool
have_no_flags leaves = list_all (λ leaf. leaf.flags == 0) leaves

-- the records follow one another without a gap, from this cluster of the inode on
abbrev pub follow_from : ℕ → List Leaf → Bool
follow_from cpos [] = true
follow_from cpos (leaf ∷ leaves) = leaf.cpos == cpos && follow_from (cpos + leaf.clusters) leaves

-- they do so from cluster 0 on
abbrev pub are_without_gap : List Leaf → Bool
are_without_gap leaves = follow_from 0 leaves
