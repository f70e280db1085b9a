-- What the references of rows tell of a volume.
use Rattle.std.proofs.Common.{◌≡◌, inl, inr, ℕ, suc, ◌+◌, Bool, true, false, cond, ◌&&◌, ◌==◌, List, [], ◌∷◌, ◌++◌, map, filter, flat_map, count_by, length, refl, sym, ◌∙◌, ap, add-zero, zero-add, one-add, Option, Some, None, if◌then◌else◌}
use Rattle.std.specs.List.{AllByRecursion}
use Rattle.std.specs.Option.{option_map_or}
use Rattle.std.proofs.lemmas.Bool.{cases_Bool}
use Rattle.std.proofs.lemmas.List.Concat.{flat_map-cons}
use Rattle.std.proofs.lemmas.List.Sums.{sum_by-cons, sum_by-append}
use Rattle.o2_model.specs.Volume.{Volume, dinode}
use Rattle.o2_model.specs.Inodes.{records_of}
use Rattle.o2_model.specs.LeafRecords.{clusters_under, is_refcounted}
use Rattle.o2_model.specs.Files.{shared_references, times_in}
use Rattle.o2_model.specs.RefcountTrees.{has_refcount, inodes_of_tree}
use Rattle.o2_model.specs.Checks.RefCover.{tree_references}
use Rattle.o2_model.specs.declared.leaf.Leaf.{Leaf}
use Rattle.o2_tables.specs.Rows.{run_of, IsInodeRow, IsInodeTable}
use Rattle.o2_tables.specs.declared.inodes.ClusterRun.{ClusterRun}
use Rattle.o2_tables.specs.declared.inodes.InodeRow.{InodeRow}
use Rattle.o2_judges_refcount.specs.References.{roots_of, clusters_in, in_tree, references_in_run, references_in_row, times_among, shared_in, is_of_tree, AreOfRows, AreReferences}
use Rattle.o2_judges_refcount.specs.declared.sharing.References.{References}
use Rattle.o2_judges_refcount.specs.declared.tree_times.TreeCluster.{TreeCluster}

-- ---- counts over lists
count_append : {A : Type 0} (p : A → Bool) (xs ys : List A) → count_by p (xs ++ ys) ≡ count_by p xs + count_by p ys
count_append p xs ys = sum_by-append (λ x. cond (p x) 1 0) xs ys

count_first : {A : Type 0} (p : A → Bool) (x : A) (xs : List A) → count_by p (x ∷ xs) ≡ cond (p x) 1 0 + count_by p xs
count_first p x xs = sum_by-cons (λ y. cond (p y) 1 0) x xs

-- ---- how often a tree's inodes refer to a cluster
-- the references to these clusters by an inode of the tree `root`
times_of_tree : (root : ℕ) (of : TreeCluster) (same : Bool) → (root == of.root) ≡ same → (cs : List ℕ)
    → times_among (map (in_tree root) cs) of ≡ cond same (times_in cs of.cluster) 0
times_of_tree root of true is [] = refl
times_of_tree root of false is [] = refl
times_of_tree root of true is (c ∷ cs) =
    count_first (λ one. one.root == of.root && one.cluster == of.cluster) (in_tree root c) (map (in_tree root) cs)
    ∙ (ap (λ b. cond (b && c == of.cluster) 1 0 + times_among (map (in_tree root) cs) of) is
    ∙ (ap (λ n. cond (c == of.cluster) 1 0 + n) (times_of_tree root of true is cs)
    ∙ sym (count_first (λ d. d == of.cluster) c cs)))
times_of_tree root of false is (c ∷ cs) =
    count_first (λ one. one.root == of.root && one.cluster == of.cluster) (in_tree root c) (map (in_tree root) cs)
    ∙ (ap (λ b. cond (b && c == of.cluster) 1 0 + times_among (map (in_tree root) cs) of) is
    ∙ (zero-add _ ∙ times_of_tree root of false is cs))

-- those by runs
times_in_runs : (root : ℕ) (of : TreeCluster) (same : Bool) → (root == of.root) ≡ same → (runs : List ClusterRun)
    → times_among (flat_map (references_in_run root) runs) of ≡ cond same (times_in (flat_map clusters_in (filter (λ run. run.is_shared) runs)) of.cluster) 0
times_in_runs root of true is [] = refl
times_in_runs root of false is [] = refl
times_in_runs root of same is (run ∷ runs) =
    ap (λ all. times_among all of) (flat_map-cons (references_in_run root) run runs)
    ∙ (count_append (λ one. one.root == of.root && one.cluster == of.cluster) (references_in_run root run) (flat_map (references_in_run root) runs)
    ∙ (ap (λ n. times_among (references_in_run root run) of + n) (times_in_runs root of same is runs) ∙ elim (cases_Bool run.is_shared) [
      | inl shared ↦ rw shared (ap (λ n. n + cond same (times_in (flat_map clusters_in (filter (λ r. r.is_shared) runs)) of.cluster) 0) (times_of_tree root of same is (clusters_in run)) ∙ both same)
      | inr alone ↦ rw alone (zero-add _)
    ]))
  where
    both : (b : Bool) → cond b (times_in (clusters_in run) of.cluster) 0 + cond b (times_in (flat_map clusters_in (filter (λ r. r.is_shared) runs)) of.cluster) 0
        ≡ cond b (times_in (flat_map clusters_in (run ∷ filter (λ r. r.is_shared) runs)) of.cluster) 0
    both true = sym (ap (λ cs. times_in cs of.cluster) (flat_map-cons clusters_in run (filter (λ r. r.is_shared) runs)) ∙ count_append (λ d. d == of.cluster) (clusters_in run) (flat_map clusters_in (filter (λ r. r.is_shared) runs)))
    both false = refl

-- those by an inode
times_in_row : (of : TreeCluster) (row : InodeRow) (named : Option ℕ) → row.named_tree ≡ named
    → times_among (references_in_row row) of ≡ cond (is_of_tree of.root row) (times_in (shared_in row) of.cluster) 0
times_in_row of row None is = rw is refl
times_in_row of row (Some root) is = rw is (times_in_runs root of (root == of.root) refl row.runs)

pub times_in_rows : (of : TreeCluster) (rows : List InodeRow)
    → times_among (flat_map references_in_row rows) of ≡ times_in (flat_map shared_in (filter (is_of_tree of.root) rows)) of.cluster
times_in_rows of [] = refl
times_in_rows of (row ∷ rows) =
    ap (λ all. times_among all of) (flat_map-cons references_in_row row rows)
    ∙ (count_append (λ one. one.root == of.root && one.cluster == of.cluster) (references_in_row row) (flat_map references_in_row rows)
    ∙ (ap (λ n. n + times_among (flat_map references_in_row rows) of) (times_in_row of row row.named_tree refl)
    ∙ (ap (λ n. cond (is_of_tree of.root row) (times_in (shared_in row) of.cluster) 0 + n) (times_in_rows of rows) ∙ elim (cases_Bool (is_of_tree of.root row)) [
      | inl is ↦ rw is (sym (ap (λ cs. times_in cs of.cluster) (flat_map-cons shared_in row (filter (is_of_tree of.root) rows)) ∙ count_append (λ d. d == of.cluster) (shared_in row) (flat_map shared_in (filter (is_of_tree of.root) rows))))
      | inr other ↦ rw other (zero-add _)
    ])))

-- ---- how many inodes a tree has
users_in_row : (root : ℕ) (row : InodeRow) (named : Option ℕ) → row.named_tree ≡ named → times_in (roots_of row) root ≡ cond (is_of_tree root row) 1 0
users_in_row root row None is = rw is refl
users_in_row root row (Some other) is = rw is (count_first (λ d. d == root) other [] ∙ add-zero (cond (other == root) 1 0))

pub users_in_rows : (root : ℕ) (rows : List InodeRow) → times_in (flat_map roots_of rows) root ≡ length (filter (is_of_tree root) rows)
users_in_rows root [] = refl
users_in_rows root (row ∷ rows) =
    ap (λ ns. times_in ns root) (flat_map-cons roots_of row rows)
    ∙ (count_append (λ d. d == root) (roots_of row) (flat_map roots_of rows)
    ∙ (ap (λ n. n + times_in (flat_map roots_of rows) root) (users_in_row root row row.named_tree refl)
    ∙ (ap (λ n. cond (is_of_tree root row) 1 0 + n) (users_in_rows root rows) ∙ elim (cases_Bool (is_of_tree root row)) [
      | inl is ↦ rw is (one-add _)
      | inr other ↦ rw other (zero-add _)
    ])))

-- ---- of a volume
-- the inode's own references
shared_is : (v : Volume) (row : InodeRow) → IsInodeRow v row → shared_in row ≡ shared_references v row.block
shared_is v row is = ap (λ runs. flat_map clusters_in (filter (λ run. run.is_shared) runs)) is.runs ∙ over (records_of v row.block)
  where
    over : (leaves : List Leaf) → flat_map clusters_in (filter (λ run. run.is_shared) (map (run_of v) leaves)) ≡ flat_map (clusters_under v) (filter is_refcounted leaves)
    over [] = refl
    over (leaf ∷ leaves) = elim (cases_Bool (is_refcounted leaf)) [
      | inl shared ↦ rw shared (ap (λ cs. clusters_under v leaf ++ cs) (over leaves))
      | inr alone ↦ rw alone (over leaves)
    ]

-- the tree that it is of
is_of : (v : Volume) (root : ℕ) (row : InodeRow) → IsInodeRow v row → is_of_tree root row ≡ (has_refcount v row.block && (dinode v row.block).refcount_loc == root)
is_of v root row is = ap (λ named. option_map_or (λ other. other == root) named false) is.named ∙ by (has_refcount v row.block)
  where
    by : (has : Bool) → option_map_or (λ other. other == root) (if has then Some (dinode v row.block).refcount_loc else None) false ≡ (has && (dinode v row.block).refcount_loc == root)
    by true = refl
    by false = refl

-- the inodes of the tree, by rows
pub those_of_tree : (v : Volume) (root : ℕ) (rows : List InodeRow) → IsInodeTable v rows → map (λ r. r.block) (filter (is_of_tree root) rows) ≡ inodes_of_tree v root
unfolding inodes_of_tree
those_of_tree v root rows table =
    over rows table.each ∙ ap (λ bs. filter (λ b. has_refcount v b && (dinode v b).refcount_loc == root) bs) table.inodes
  where
    over : (rs : List InodeRow) → AllByRecursion (IsInodeRow v) rs
        → map (λ r. r.block) (filter (is_of_tree root) rs) ≡ filter (λ b. has_refcount v b && (dinode v b).refcount_loc == root) (map (λ r. r.block) rs)
    over [] all = refl
    over (r ∷ rs) all = elim (cases_Bool (has_refcount v r.block && (dinode v r.block).refcount_loc == root)) [
      | inl is ↦ rw (is_of v root r all.0 ∙ is, is) (ap (λ bs. r.block ∷ bs) (over rs all.1))
      | inr other ↦ rw (is_of v root r all.0 ∙ other, other) (over rs all.1)
    ]

-- its references, by rows
pub references_of_tree : (v : Volume) (root : ℕ) (rows : List InodeRow) → IsInodeTable v rows → flat_map shared_in (filter (is_of_tree root) rows) ≡ tree_references v root
unfolding tree_references
references_of_tree v root rows table = over rows table.each ∙ ap (flat_map (shared_references v)) (those_of_tree v root rows table)
  where
    over : (rs : List InodeRow) → AllByRecursion (IsInodeRow v) rs
        → flat_map shared_in (filter (is_of_tree root) rs) ≡ flat_map (shared_references v) (map (λ r. r.block) (filter (is_of_tree root) rs))
    over [] all = refl
    over (r ∷ rs) all = elim (cases_Bool (is_of_tree root r)) [
      | inl is ↦ rw is (ap (λ cs. cs ++ flat_map shared_in (filter (is_of_tree root) rs)) (shared_is v r all.0) ∙ ap (λ cs. shared_references v r.block ++ cs) (over rs all.1))
      | inr other ↦ rw other (over rs all.1)
    ]

length_map : {A B : Type 0} (f : A → B) (xs : List A) → length (map f xs) ≡ length xs
length_map f [] = refl
length_map f (x ∷ xs) = ap suc (length_map f xs)

pub references_told : (v : Volume) (rows : List InodeRow) (r : References) → AreOfRows rows r → IsInodeTable v rows → AreReferences v r
references_told v rows r are table = record {
  users = λ root.
      are.users.each root
      ∙ (users_in_rows root rows
      ∙ (sym (length_map (λ (x : InodeRow). x.block) (filter (is_of_tree root) rows)) ∙ ap (λ (bs : List ℕ). length bs) (those_of_tree v root rows table)));
  times = λ root c.
      are.times.each (in_tree root c)
      ∙ (times_in_rows (in_tree root c) rows ∙ ap (λ cs. times_in cs c) (references_of_tree v root rows table));
}
