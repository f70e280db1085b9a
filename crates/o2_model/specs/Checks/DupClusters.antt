-- DUP_CLUSTERS, number 37, at the inode: no structure and no other inode claims a cluster of its records, and it maps none twice,
-- but for refcounted ones of itself or of one tree.
use Rattle.std.specs.Prelude.{ℕ, Bool, ◌&&◌, ◌||◌, not, ◌==◌, List, map, flat_map, filter, length}
use Rattle.std.specs.List.{list_all}
use Rattle.o2_model.specs.declared.leaf.Leaf.{Leaf}
use Rattle.o2_model.specs.Faults.{fails_at}
use Rattle.o2_model.specs.Volume.{Volume, dinode}
use Rattle.o2_model.specs.Inodes.{records_of}
use Rattle.o2_model.specs.Groups.{inodes_of}
use Rattle.o2_model.specs.LeafRecords.{clusters_under, is_refcounted}
use Rattle.o2_model.specs.Claims.{structure_claims, is_claimed}
use Rattle.o2_model.specs.Checks.RefTree.{has_tree}

-- A use of a cluster: an inode maps it by a record, which is refcounted or not.
pub record ClusterUse : Type 0 where
  pub inode : ℕ
  pub cluster : ℕ
  pub is_shared : Bool

abbrev pub uses_under : Volume → ℕ → Leaf → List ClusterUse
uses_under v b leaf = map (λ c. record { inode = b; cluster = c; is_shared = is_refcounted leaf }) (clusters_under v leaf)

unfoldable pub uses_by : Volume → ℕ → List ClusterUse
uses_by v b = flat_map (uses_under v b) (records_of v b)

-- the uses of one cluster
abbrev pub uses_of : Volume → ℕ → List ClusterUse
uses_of v c = filter (λ u. u.cluster == c) (flat_map (uses_by v) (inodes_of v))

-- two inodes with one refcount tree
abbrev pub share_tree : Volume → ℕ → ℕ → Bool
share_tree v a b = has_tree v a && has_tree v b && (dinode v a).refcount_loc == (dinode v b).refcount_loc

-- both are refcounted, and of one inode or of one tree
abbrev pub may_share : Volume → ClusterUse → ClusterUse → Bool
may_share v a b = a.is_shared && b.is_shared && (a.inode == b.inode || share_tree v a.inode b.inode)

-- no structure claims the cluster, and this use is the only one, or it may share with all
unfoldable pub is_sole_or_shared : Volume → ClusterUse → Bool
is_sole_or_shared v u =
    not (is_claimed (structure_claims v) u.cluster)
    && (length (uses_of v u.cluster) == 1 || list_all (may_share v u) (uses_of v u.cluster))

abbrev pub dup_clusters_faults : Volume → List ℕ
dup_clusters_faults v = fails_at (λ b. b) (λ b. list_all (is_sole_or_shared v) (uses_by v b)) (inodes_of v)
