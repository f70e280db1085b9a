-- Rows of inodes and of trees tell where REF_TREE, REF_COUNT and REF_USERS fail.
use Rattle.std.proofs.Common.{◌≡◌, ℕ, ◌-◌, ◌%◌, ◌^◌, min, Bool, true, false, ◌&&◌, ◌||◌, not, ◌==◌, nat_lt, List, [], ◌∷◌, ◌++◌, map, filter, flat_map, length, refl, ◌∙◌, ap, Some, None, if◌then◌else◌}
use Rattle.std.specs.List.{list_all, list_any}
use Rattle.std.specs.Option.{is_some}
use Rattle.o2_ondisk.specs.declared.refcount_rec.RefcountRec.{RefcountRec}
use Rattle.o2_model.specs.declared.check.Check.TheVariants as check
use Rattle.o2_model.specs.declared.leaf.Leaf.{Leaf}
use Rattle.o2_model.specs.declared.placed_refcount.PlacedRefcount.{PlacedRefcount}
use Rattle.o2_model.specs.Faults.{fails_at, fails_unless}
use Rattle.o2_model.specs.Volume.{Volume, dinode}
use Rattle.o2_model.specs.Inodes.{records_of}
use Rattle.o2_model.specs.Groups.{inodes_of}
use Rattle.o2_model.specs.LeafRecords.{is_refcounted}
use Rattle.o2_model.specs.Files.{times_in}
use Rattle.o2_model.specs.RefcountTrees.{refcount_roots, refcount_block, inodes_of_tree, is_refcount_block, refcounts}
use Rattle.o2_model.specs.Checks.RefTree.{has_tree, has_refcounted, ref_tree_faults_of}
use Rattle.o2_model.specs.Checks.RefCover.{tree_references, record_clusters, is_shared_evenly}
use Rattle.o2_model.specs.Checks.RefCount.{has_sound_count, ref_count_faults_of}
use Rattle.o2_model.specs.Failing.{faults}
use Rattle.o2_tables.specs.Rows.{run_of, IsInodeRow, IsInodeTable, IsRefcountTreeRow, IsRefcountTreeTable}
use Rattle.o2_tables.specs.declared.inodes.InodeRow.{InodeRow}
use Rattle.o2_tables.specs.declared.refcounts.RefcountTreeRow.{RefcountTreeRow}
use Rattle.o2_judges_refcount.specs.References.{times_of, users_of, AreReferences}
use Rattle.o2_judges_refcount.specs.TreeRows.{shares, inode_faults, has_users, is_shared, has_count, record_faults, count_faults}
use Rattle.o2_judges_refcount.specs.declared.sharing.References.{References}
use Rattle.o2_judges_refcount.proofs.RowsTold.{each_is, one_by_one, rows_tell, rows_give, same_all, same_those}

-- ---- REF_USERS
users_is : (v : Volume) (r : References) (t : RefcountTreeRow) → AreReferences v r → IsRefcountTreeRow v t → t.root.is_refcount_block ≡ true
    → has_users r t ≡ ((refcount_block v t.root.block).count == length (inodes_of_tree v t.root.block) % 2 ^ 32)
users_is v r t are is sound =
    ap (λ n. n == users_of r t.root.block % 2 ^ 32) (is.users sound)
    ∙ ap (λ n. (refcount_block v t.root.block).count == n % 2 ^ 32) (are.users t.root.block)

pub users_told : (v : Volume) (r : References) (trees : List RefcountTreeRow) → AreReferences v r → IsRefcountTreeTable v trees
    → map (λ t. t.root.block) (filter (λ t. t.root.is_refcount_block && not (has_users r t)) trees) ≡ faults v check.RefUsers
unfolding faults
users_told v r trees are table =
    rows_tell (λ t. t.root.block) (λ b. b) (λ t. t.root.is_refcount_block) (is_refcount_block v) (has_users r)
    (λ root. (refcount_block v root).count == length (inodes_of_tree v root) % 2 ^ 32) trees (refcount_roots v) table.roots
    (each_is (λ t is. (is.root.is, users_is v r t are is)) trees table.each)

-- ---- records
pub shared_evenly_is : (v : Volume) (r : References) (root : ℕ) → AreReferences v r → (x : RefcountRec) → is_shared r root x ≡ is_shared_evenly (tree_references v root) x
unfolding is_shared_evenly
shared_evenly_is v r root are x =
    let first = are.times root x.cpos in
    ap (λ n. nat_lt 0 n && list_all (λ c. times_of r root c == n) (record_clusters x)) first
    ∙ ap (λ b. nat_lt 0 (times_in (tree_references v root) x.cpos) && b)
    (same_all (λ c. times_of r root c == times_in (tree_references v root) x.cpos) (λ c. times_in (tree_references v root) c == times_in (tree_references v root) x.cpos)
    (λ c. ap (λ n. n == times_in (tree_references v root) x.cpos) (are.times root c)) (record_clusters x))

count_is : (v : Volume) (r : References) (root : ℕ) → AreReferences v r → (p : PlacedRefcount) → has_count r root p ≡ has_sound_count (tree_references v root) p
unfolding has_sound_count
count_is v r root are p =
    ap (λ b. not b || p.fields.refcount == min (times_of r root p.fields.cpos) (2 ^ 32 - 1)) (shared_evenly_is v r root are p.fields)
    ∙ ap (λ n. not (is_shared_evenly (tree_references v root) p.fields) || p.fields.refcount == min n (2 ^ 32 - 1)) (are.times root p.fields.cpos)

-- ---- REF_COUNT
counts_are : (v : Volume) (r : References) (t : RefcountTreeRow) → AreReferences v r → IsRefcountTreeRow v t
    → flat_map (record_faults r t.root.block) t.records ≡ ref_count_faults_of v t.root.block
unfolding record_faults
counts_are v r t are is =
    ap (flat_map (record_faults r t.root.block)) is.records
    ∙ one_by_one (λ p. p.block) (has_count r t.root.block) (refcounts v t.root.block).records
    ∙ ap (map (λ p. p.block)) (same_those (has_count r t.root.block) (has_sound_count (tree_references v t.root.block)) (count_is v r t.root.block are) (refcounts v t.root.block).records)

pub counts_told : (v : Volume) (r : References) (trees : List RefcountTreeRow) → AreReferences v r → IsRefcountTreeTable v trees
    → flat_map (count_faults r) trees ≡ faults v check.RefCount
unfolding faults
counts_told v r trees are table =
    rows_give (λ t. t.root.block) (λ t. t.root.is_refcount_block) (is_refcount_block v) (λ t. flat_map (record_faults r t.root.block) t.records) (ref_count_faults_of v)
    trees (refcount_roots v) table.roots
    (each_is (λ t is. (is.root.is, λ sound. counts_are v r t are is)) trees table.each)

-- ---- REF_TREE
shares_is : (v : Volume) (row : InodeRow) → IsInodeRow v row → shares row ≡ has_refcounted v row.block
unfolding shares
shares_is v row is = ap (list_any (λ run. run.is_shared)) is.runs ∙ over (records_of v row.block)
  where
    over : (leaves : List Leaf) → list_any (λ run. run.is_shared) (map (run_of v) leaves) ≡ list_any is_refcounted leaves
    over [] = refl
    over (leaf ∷ leaves) = ap (λ b. is_refcounted leaf || b) (over leaves)

tree_is : (v : Volume) (row : InodeRow) → IsInodeRow v row → is_some row.tree ≡ has_tree v row.block
tree_is v row is = ap is_some is.tree ∙ by (has_tree v row.block)
  where
    by : (has : Bool) → is_some (if has then Some (dinode v row.block).refcount_loc else None) ≡ has
    by true = refl
    by false = refl

inodes_told : (v : Volume) (rows : List InodeRow) → IsInodeTable v rows
    → flat_map inode_faults rows ≡ fails_at (λ b. b) (has_tree v) (filter (has_refcounted v) (inodes_of v))
unfolding inode_faults
inodes_told v rows table =
    rows_give (λ r. r.block) shares (has_refcounted v) (λ r. fails_unless r.block (is_some r.tree)) (λ b. fails_unless b (has_tree v b)) rows (inodes_of v) table.inodes
    (each_is (λ r one. (shares_is v r one, λ shared. ap (fails_unless r.block) (tree_is v r one))) rows table.each)
    ∙ one_by_one (λ b. b) (has_tree v) (filter (has_refcounted v) (inodes_of v))

pub tree_told : (v : Volume) (rows : List InodeRow) (found : List ℕ) → IsInodeTable v rows → found ≡ flat_map (ref_tree_faults_of v) (refcount_roots v)
    → flat_map inode_faults rows ++ found ≡ faults v check.RefTree
unfolding faults
tree_told v rows found table is =
    ap (λ ns. ns ++ found) (inodes_told v rows table)
    ∙ ap (λ ns. fails_at (λ b. b) (has_tree v) (filter (has_refcounted v) (inodes_of v)) ++ ns) is
