-- What was read of a tree is what the definitions have.
use Rattle.std.proofs.Common.{◌≡◌, ℕ, true, false, List, [], ◌∷◌, ◌++◌, map, refl, sym, ◌∙◌, ap, subst}
use Rattle.std.specs.List.{AllByRecursion}
use Rattle.std.proofs.lemmas.Bool.{false≢true}
use Rattle.std.proofs.lemmas.List.{map_push}
use Rattle.o2_ondisk.specs.declared.extent_block.ExtentBlock.{ExtentBlock}
use Rattle.o2_model.specs.declared.origin.Origin.{Origin}
use Rattle.o2_model.specs.Checks.EbNext.{leaf_blocks, next_faults}
use Rattle.o2_model.specs.Checks.RefTree.{is_sound_root_block, ref_tree_faults_of}
use Rattle.o2_model.specs.Extents.{Extents}
use Rattle.o2_model.specs.Faults.{fails_unless}
use Rattle.o2_model.specs.RefcountTrees.{Refcounts, is_refcount_block, refcount_block, has_leaf_blocks, leaf_list, refcount_leaves, read_refcount_block, refcounts}
use Rattle.o2_model.specs.Volume.{Volume, is_in_range}
use Rattle.o2_model.specs.Words.{push}
use Rattle.o2_extent.specs.Readings.{IsListBlock, AreListBlocks}
use Rattle.o2_extent.specs.declared.list_block.ListBlock.{ListBlock}
use Rattle.o2_extent.proofs.Owners.{no_list}
use Rattle.o2_tables.specs.Rows.{IsExtentBlockRow, AreExtentBlockRows, IsRefcountBlockRow}
use Rattle.o2_tables.specs.declared.inodes.ExtentBlockRow.{ExtentBlockRow}
use Rattle.o2_tables.specs.declared.refcounts.RefcountBlockRow.{RefcountBlockRow}
use Rattle.o2_refcount.specs.Readings.{nothing_read, with_fault, with_blocks}
use Rattle.o2_refcount.specs.TreeReadings.{AreRefcountBlockRows, IsTreeReading, extent_row, next_faults_of, last_faults_of}
use Rattle.o2_refcount.specs.declared.tree_row.TreeReading.{TreeReading}
use Rattle.o2_refcount.proofs.Steps.{bad_block}

-- ---- rows of blocks
-- no block out of range is a refcount block
pub none_out_of_range : (v : Volume) (b : ℕ) → is_in_range v b ≡ false → is_refcount_block v b ≡ false
unfolding is_refcount_block
none_out_of_range v b out = rw out refl

all_push : {A : Type 0} (P : A → Type 0) (xs : List A) (x : A) → AllByRecursion P xs → P x → AllByRecursion P (push xs x)
all_push P [] x all is = (is, tt)
all_push P (y ∷ ys) x all is = (all.0, all_push P ys x all.1 is)

pub row_more : (v : Volume) (blocks : List ℕ) (b : ℕ) (rows more : List RefcountBlockRow) (row : RefcountBlockRow) → AreRefcountBlockRows v blocks rows → row.block ≡ b → IsRefcountBlockRow v row
    → more ≡ push rows row → AreRefcountBlockRows v (push blocks b) more
row_more v blocks b rows more row are of is same = subst (AreRefcountBlockRows v (push blocks b)) (sym same) (record {
  listed = map_push (λ r. r.block) rows row ∙ (ap (λ bs. push bs row.block) are.listed ∙ ap (push blocks) of);
  each = all_push (IsRefcountBlockRow v) rows row are.each is;
})

-- ---- rows of extent blocks
abbrev origin_in : ExtentBlock → Origin
origin_in x = record { slot = x.suballoc_slot; bit = x.suballoc_bit; loc = x.suballoc_loc }

rows_are : (v : Volume) (blocks : List ListBlock) → AllByRecursion (IsListBlock v) blocks → AllByRecursion (IsExtentBlockRow v) (map extent_row blocks)
rows_are v [] all = tt
rows_are v (b ∷ bs) all = (record { origin = ap origin_in all.0.fields }, rows_are v bs all.1)

same_blocks : (blocks : List ListBlock) → map (λ r. r.block) (map extent_row blocks) ≡ map (λ r. r.block) blocks
same_blocks [] = refl
same_blocks (b ∷ bs) = ap (λ ns. b.block ∷ ns) (same_blocks bs)

pub extent_rows_told : (v : Volume) (listed : List ℕ) (blocks : List ListBlock) (rows : List ExtentBlockRow) → rows ≡ map extent_row blocks → AreListBlocks v listed blocks → AreExtentBlockRows v listed rows
extent_rows_told v listed blocks rows is are = subst (AreExtentBlockRows v listed) (sym is) (record { listed = same_blocks blocks ∙ are.listed; each = rows_are v blocks are.each })

-- ---- the records of a tree
pub alone_read : (v : Volume) (root : ℕ) → has_leaf_blocks v root ≡ false → read_refcount_block v nothing_read root ≡ refcounts v root
unfolding refcounts
alone_read v root none = rw none refl

pub leaves_read : (v : Volume) (root : ℕ) → has_leaf_blocks v root ≡ true → with_blocks v nothing_read (refcount_leaves v root) ≡ refcounts v root
unfolding refcounts
leaves_read v root has = rw has refl

pub no_leaf_rows : (v : Volume) (root : ℕ) (rows : List RefcountBlockRow) → has_leaf_blocks v root ≡ false → rows ≡ [] → AreRefcountBlockRows v (refcount_leaves v root) rows
no_leaf_rows v root rows none empty = subst (AreRefcountBlockRows v (refcount_leaves v root)) (sym empty) (record {
  listed = sym (ap (λ (t : Extents). map (λ leaf. leaf.block) t.leaves) (no_list v root none));
  each = tt;
})

-- ---- a whole tree
pub tree_told : (v : Volume) (root : ℕ) (tree : TreeReading) → tree.row.root.block ≡ root → IsRefcountBlockRow v tree.row.root
    → (tree.row.root.is_refcount_block ≡ true → tree.row.users ≡ (refcount_block v root).count)
    → AreExtentBlockRows v (leaf_list v root).blocks tree.row.extent_blocks → AreRefcountBlockRows v (refcount_leaves v root) tree.row.leaves
    → tree.row.records ≡ (refcounts v root).records → tree.faults.items ≡ ref_tree_faults_of v root
    → tree.next_leaves.items ≡ next_faults_of v root → tree.last_leaves.items ≡ last_faults_of v root → IsTreeReading v root tree
tree_told v root tree of is users blocks leaves records faults next last = record {
  row = record {
    root = is;
    users = λ one. users one ∙ sym (ap (λ b. (refcount_block v b).count) of);
    extent_blocks = subst (λ b. AreExtentBlockRows v (leaf_list v b).blocks tree.row.extent_blocks) (sym of) blocks;
    named = leaves.listed ∙ sym (ap (refcount_leaves v) of);
    leaves = leaves.each;
    records = records ∙ sym (ap (λ b. (refcounts v b).records) of);
  };
  of = of;
  faults = faults;
  next = next;
  last = last;
}

-- ---- a root out of range
module _ (v : Volume) (root : ℕ) (out : is_in_range v root ≡ false) where
  none : has_leaf_blocks v root ≡ false
  none = rw (none_out_of_range v root out) refl

  read_none : refcounts v root ≡ with_fault nothing_read root
  read_none = sym (alone_read v root none) ∙ sym (bad_block v nothing_read root out)

  unsound : is_sound_root_block v root ≡ false
  unsound = rw (none_out_of_range v root out) refl

  faults_twice : root ∷ root ∷ [] ≡ ref_tree_faults_of v root
  faults_twice = sym (ap (λ sound. fails_unless root sound ++ (refcounts v root).faults) unsound ∙ ap (λ (t : Refcounts). root ∷ t.faults) read_none)

  no_next : [] ≡ next_faults_of v root
  unfolding leaf_blocks
  no_next = sym (ap (λ t. next_faults v (leaf_blocks v t)) (no_list v root none))

  no_last : [] ≡ last_faults_of v root
  no_last = rw none refl

  no_blocks : (rows : List ExtentBlockRow) → rows ≡ [] → AreExtentBlockRows v (leaf_list v root).blocks rows
  no_blocks rows empty = subst (AreExtentBlockRows v (leaf_list v root).blocks) (sym empty) (record {
    listed = sym (ap (λ (t : Extents). t.blocks) (no_list v root none));
    each = tt;
  })

  pub not_read_told : (tree : TreeReading) → tree.row.root.block ≡ root → IsRefcountBlockRow v tree.row.root → tree.row.root.is_refcount_block ≡ false
      → tree.row.extent_blocks ≡ [] → tree.row.leaves ≡ [] → tree.row.records ≡ [] → tree.faults.items ≡ root ∷ root ∷ []
      → tree.next_leaves.items ≡ [] → tree.last_leaves.items ≡ [] → IsTreeReading v root tree
  not_read_told tree of is not blocks leaves records faults next last =
      tree_told v root tree of is (λ one. absurd (false≢true (sym not ∙ one))) (no_blocks _ blocks) (no_leaf_rows v root _ none leaves)
      (records ∙ sym (ap (λ (t : Refcounts). t.records) read_none)) (faults ∙ faults_twice) (next ∙ no_next) (last ∙ no_last)
