-- What was read of refcount trees.
use Rattle.std.specs.Prelude.{◌≡◌, ℕ, ◌==◌, Bool, List, [], map, filter, flat_map, if◌then◌else◌}
use Rattle.std.specs.List.{AllByRecursion}
use Rattle.o2_model.specs.Checks.EbNext.{leaf_blocks, next_faults}
use Rattle.o2_model.specs.Checks.LastEb.{last_leaf}
use Rattle.o2_model.specs.Checks.RefTree.{ref_tree_faults_of}
use Rattle.o2_model.specs.Faults.{fails_at, fails_unless}
use Rattle.o2_model.specs.RefcountTrees.{refcount_block, refcount_roots, has_leaf_blocks, leaf_list}
use Rattle.o2_model.specs.Volume.{Volume}
use Rattle.o2_extent.specs.declared.list_block.ListBlock.{ListBlock}
use Rattle.o2_tables.specs.Rows.{IsRefcountBlockRow, IsRefcountTreeRow, IsRefcountTreeTable}
use Rattle.o2_tables.specs.declared.inodes.ExtentBlockRow.{ExtentBlockRow}
use Rattle.o2_tables.specs.declared.refcounts.RefcountBlockRow.{RefcountBlockRow}
use Rattle.o2_refcount.specs.declared.tree_row.TreeReading.{TreeReading}
use Rattle.o2_refcount.specs.declared.trees.TreeSurvey.{TreeSurvey}

-- ---- rows of blocks
-- The rows are those of these blocks, in order.
pub record AreRefcountBlockRows (v : Volume) (blocks : List ℕ) (rows : List RefcountBlockRow) : Type 0 where
  pub listed : map (λ r. r.block) rows ≡ blocks
  pub each : AllByRecursion (IsRefcountBlockRow v) rows

-- the row of an extent block
abbrev pub extent_row : ListBlock → ExtentBlockRow
extent_row row = record { block = row.block; origin = record { slot = row.fields.suballoc_slot; bit = row.fields.suballoc_bit; loc = row.fields.suballoc_loc } }

-- ---- one tree
-- the root names the last leaf of its list
abbrev pub names_last_leaf : Volume → ℕ → Bool
names_last_leaf v root = (refcount_block v root).last_eb_blk == last_leaf v (leaf_list v root)

-- where LAST_EB fails at the root
abbrev pub last_faults_of : Volume → ℕ → List ℕ
last_faults_of v root = if has_leaf_blocks v root then fails_unless root (names_last_leaf v root) else []

-- where EB_NEXT fails in the list of the tree
abbrev pub next_faults_of : Volume → ℕ → List ℕ
next_faults_of v root = next_faults v (leaf_blocks v (leaf_list v root))

-- The reading is that of the tree with this root.
pub record IsTreeReading (v : Volume) (root : ℕ) (tree : TreeReading) : Type 0 where
  pub row : IsRefcountTreeRow v tree.row
  pub of : tree.row.root.block ≡ root
  pub faults : tree.faults.items ≡ ref_tree_faults_of v root
  pub next : tree.next_leaves.items ≡ next_faults_of v root
  pub last : tree.last_leaves.items ≡ last_faults_of v root

-- ---- all trees
-- The survey is that of the trees with these roots, in order.
pub record AreTreesRead (v : Volume) (roots : List ℕ) (survey : TreeSurvey) : Type 0 where
  pub listed : map (λ r. r.root.block) survey.rows.items ≡ roots
  pub each : AllByRecursion (IsRefcountTreeRow v) survey.rows.items
  pub faults : survey.trees.items ≡ flat_map (ref_tree_faults_of v) roots
  pub next : survey.next_leaves.items ≡ flat_map (next_faults_of v) roots
  pub last : survey.last_leaves.items ≡ flat_map (last_faults_of v) roots

-- The survey is that of the trees that inodes name, and tells where REF_TREE, EB_NEXT and LAST_EB fail for these.
pub record IsTreeSurvey (v : Volume) (survey : TreeSurvey) : Type 0 where
  pub table : IsRefcountTreeTable v survey.rows.items
  pub faults : survey.trees.items ≡ flat_map (ref_tree_faults_of v) (refcount_roots v)
  pub next : survey.next_leaves.items ≡ flat_map (next_faults_of v) (refcount_roots v)
  pub last : survey.last_leaves.items ≡ fails_at (λ b. b) (names_last_leaf v) (filter (has_leaf_blocks v) (refcount_roots v))
