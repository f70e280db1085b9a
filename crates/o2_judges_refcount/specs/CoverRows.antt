-- Which clusters the records of each tree have, and which trees miss one that their inodes refer to.
use Rattle.std.specs.Prelude.{◌≡◌, ℕ, Bool, false, ◌&&◌, ◌||◌, not, ◌==◌, List, [], map, if◌then◌else◌}
use Rattle.std.specs.List.{list_all, list_any}
use Rattle.std.specs.Option.{option_map_or}
use Rattle.std.specs.BTreeMap.{get}
use Rattle.std.specs.BTreeSet.{BTreeSet}
use Rattle.std.specs.Ordering.{nat_cmp}
use Rattle.o2_model.specs.declared.placed_refcount.PlacedRefcount.{PlacedRefcount}
use Rattle.o2_model.specs.Faults.{fails_unless}
use Rattle.o2_tally.specs.Again.{has_number}
use Rattle.o2_tally.specs.Gathered.{IsGathered}
use Rattle.o2_tables.specs.declared.inodes.ClusterRun.{ClusterRun}
use Rattle.o2_tables.specs.declared.inodes.InodeRow.{InodeRow}
use Rattle.o2_tables.specs.declared.refcounts.RefcountTreeRow.{RefcountTreeRow}
use Rattle.o2_view.specs.Plans.{is_in_runs}
use Rattle.o2_judges_refcount.specs.References.{clusters_in}
use Rattle.o2_judges_refcount.specs.TreeRows.{is_shared}
use Rattle.o2_judges_refcount.specs.declared.covers.Covers.{Covers}
use Rattle.o2_judges_refcount.specs.declared.sharing.References.{References}

-- ---- the clusters of records
-- the clusters of a record, as a run
abbrev pub run_of : PlacedRefcount → ℕ × ℕ
run_of p = (p.fields.cpos, p.fields.clusters)

abbrev pub runs_of : RefcountTreeRow → List (ℕ × ℕ)
runs_of t = map run_of t.records

-- For each root the runs are those of its tree.
abbrev pub AreCovers : List RefcountTreeRow → Covers → Type 0
AreCovers trees covers = IsGathered (λ t. t.root.block) (λ before t. runs_of t) trees covers.runs

-- a record of the tree has the cluster
abbrev pub has_cluster : Covers → ℕ → ℕ → Bool
has_cluster covers root c = option_map_or (λ runs. is_in_runs runs c) (get nat_cmp covers.runs root) false

-- ---- what inodes refer to
abbrev pub has_run : Covers → ℕ → ClusterRun → Bool
has_run covers root run = list_all (has_cluster covers root) (clusters_in run)

-- records of the tree have all clusters under the inode's shared runs
abbrev pub has_shared : Covers → ℕ → InodeRow → Bool
has_shared covers root row = list_all (λ run. not run.is_shared || has_run covers root run) row.runs

-- the inode is of the tree, and refers to a cluster that no record of it has
abbrev pub misses : Covers → ℕ → InodeRow → Bool
misses covers root row = option_map_or (λ named. named == root && not (has_shared covers named row)) row.named_tree false

-- These are the roots of the trees that miss a cluster which an inode refers to.
pub record AreMissing (covers : Covers) (rows : List InodeRow) (roots : BTreeSet ℕ) : Type 0 where
  pub each : (root : ℕ) → has_number roots root ≡ list_any (misses covers root) rows

-- ---- what REF_COVER asks
-- all clusters of each record are referred to equally often, and the tree misses none
abbrev pub is_covering : References → BTreeSet ℕ → RefcountTreeRow → Bool
is_covering r missing t = list_all (λ p. is_shared r t.root.block p.fields) t.records && not (has_number missing t.root.block)

-- the root, unless it is so or it is no refcount block
abbrev pub cover_faults : References → BTreeSet ℕ → RefcountTreeRow → List ℕ
cover_faults r missing t = if t.root.is_refcount_block then fails_unless t.root.block (is_covering r missing t) else []
