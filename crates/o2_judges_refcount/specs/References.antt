-- What inodes refer to by their shared runs, by tree.
use Rattle.std.specs.Prelude.{◌≡◌, ℕ, Bool, false, ◌&&◌, ◌==◌, List, [], ◌∷◌, map, flat_map, filter, count_by, length, unwrap_or, if◌then◌else◌}
use Rattle.std.specs.List.{range_with_len}
use Rattle.std.specs.Option.{option_map_or}
use Rattle.std.specs.BTreeMap.{get}
use Rattle.std.specs.Ordering.{nat_cmp, ordering_then}
use Rattle.std.specs.declared.cmp.Ordering.{Ordering}
use Rattle.o2_model.specs.Volume.{Volume}
use Rattle.o2_model.specs.Files.{times_in}
use Rattle.o2_model.specs.RefcountTrees.{inodes_of_tree}
use Rattle.o2_model.specs.Checks.RefCover.{tree_references}
use Rattle.o2_tally.specs.Gathered.{count_of, IsCount}
use Rattle.o2_tables.specs.declared.inodes.ClusterRun.{ClusterRun}
use Rattle.o2_tables.specs.declared.inodes.InodeRow.{InodeRow}
use Rattle.o2_judges_refcount.specs.declared.sharing.References.{References}
use Rattle.o2_judges_refcount.specs.declared.tree_times.TreeCluster.{TreeCluster}
use Rattle.o2_judges_refcount.specs.declared.tree_times.TreeTimes.{TreeTimes}

-- ---- by rows
-- the root that the inode names, or nothing
abbrev pub roots_of : InodeRow → List ℕ
roots_of row = option_map_or (λ root. root ∷ []) row.named_tree []

-- the clusters under a run
abbrev pub clusters_in : ClusterRun → List ℕ
clusters_in run = range_with_len run.start run.clusters

-- the clusters that an inode refers to by its shared runs, once for each run
abbrev pub shared_in : InodeRow → List ℕ
shared_in row = flat_map clusters_in (filter (λ run. run.is_shared) row.runs)

-- the inode names this root
abbrev pub is_of_tree : ℕ → InodeRow → Bool
is_of_tree root row = option_map_or (λ named. named == root) row.named_tree false

abbrev pub in_tree : ℕ → ℕ → TreeCluster
in_tree root c = record { root = root; cluster = c }

-- the references by a run of an inode of the tree
abbrev pub references_in_run : ℕ → ClusterRun → List TreeCluster
references_in_run root run = if run.is_shared then map (in_tree root) (clusters_in run) else []

-- those by an inode, none where it names no tree
abbrev pub references_in_row : InodeRow → List TreeCluster
references_in_row row = option_map_or (λ root. flat_map (references_in_run root) row.runs) row.named_tree []

-- how often these are references to it
abbrev pub times_among : List TreeCluster → TreeCluster → ℕ
times_among all of = count_by (λ one. one.root == of.root && one.cluster == of.cluster) all

-- ---- as they are kept
-- the order of clusters, by tree and then by number
abbrev pub cluster_cmp : TreeCluster → TreeCluster → Ordering
cluster_cmp a b = ordering_then (nat_cmp a.root b.root) (nat_cmp a.cluster b.cluster)

-- how often it is referred to
abbrev pub times_at : TreeTimes → TreeCluster → ℕ
times_at times of = unwrap_or (get cluster_cmp times.times of) 0

-- These are all references.
pub record AreTimes (all : List TreeCluster) (times : TreeTimes) : Type 0 where
  pub each : (of : TreeCluster) → times_at times of ≡ times_among all of

-- how many inodes the tree with this root has
abbrev pub users_of : References → ℕ → ℕ
users_of r root = count_of r.users root

-- how often these refer to the cluster
abbrev pub times_of : References → ℕ → ℕ → ℕ
times_of r root c = times_at r.times (in_tree root c)

-- They are those of these inodes.
pub record AreOfRows (rows : List InodeRow) (r : References) : Type 0 where
  pub users : IsCount (flat_map roots_of rows) r.users
  pub times : AreTimes (flat_map references_in_row rows) r.times

-- ---- of a volume
-- Each tree of the volume has so many inodes, and these refer to each cluster so often.
pub record AreReferences (v : Volume) (r : References) : Type 0 where
  pub users : (root : ℕ) → users_of r root ≡ length (inodes_of_tree v root)
  pub times : (root c : ℕ) → times_of r root c ≡ times_in (tree_references v root) c
