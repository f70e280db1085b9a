-- What is read of an index root or of a refcount root, by what its fields say.
use Rattle.std.proofs.Common.{◌≡◌, inl, inr, ℕ, suc, ◌-◌, ◌/◌, Bool, ◌&&◌, not, true, false, ◌==◌, List, [], ◌∷◌, length, refl, arith, Some, None}
use Rattle.std.proofs.lemmas.Bool.{cases_Bool}
use Rattle.std.proofs.lemmas.Bool.Decides.{nat_tests}
use Rattle.o2_ondisk.specs.DxRoots.{dx_root_list_place}
use Rattle.o2_model.specs.Orders.{is_none_of}
use Rattle.o2_model.specs.declared.leaf.Leaf.{Leaf}
use Rattle.o2_model.specs.Volume.{Volume, block_size}
use Rattle.o2_model.specs.Extents.{nothing_read, read_list}
use Rattle.o2_model.specs.Extents.LeafRule.{ToClusters, ToBlocks}
use Rattle.o2_model.specs.Indexes.{dx_root, index_root, is_index_root, is_inline_index, is_sound_dx_list, index_extents}
use Rattle.o2_model.specs.RefcountTrees.{is_refcount_block, has_leaf_blocks, most_in_refcount_block, leaf_list}
use Rattle.o2_model.specs.Checks.RefTree.{is_sound_root_block}
use Rattle.o2_extent.specs.declared.list_block.ListBlock.{ListBlock}
use Rattle.o2_extent.specs.Readings.{AreListBlocks}
use Rattle.o2_extent.specs.Owners.{is_some_index_root, index_list, is_sound_index_root, where_sound}

first_holds : (a b : Bool) → (a && b) ≡ true → a ≡ true
first_holds true b both = refl
first_holds false b both = both

-- ---- an index root
pub no_index_root : (v : Volume) (b : ℕ) → is_some_index_root v b ≡ false → None ≡ where_sound (is_sound_index_root v b) (index_list v b).leaves
unfolding is_sound_index_root
no_index_root v b other = rw other refl

pub bad_entries : (v : Volume) (b : ℕ) → is_some_index_root v b ≡ true → is_inline_index v b ≡ true → is_sound_dx_list v dx_root_list_place b ≡ false → None ≡ where_sound (is_sound_index_root v b) (index_list v b).leaves
unfolding is_sound_index_root
bad_entries v b is inline bad = rw (is, inline, bad) refl

pub entries_in_root : (v : Volume) (b : ℕ) → is_some_index_root v b ≡ true → is_inline_index v b ≡ true → is_sound_dx_list v dx_root_list_place b ≡ true → Some [] ≡ where_sound (is_sound_index_root v b) (index_list v b).leaves
unfolding is_sound_index_root index_list
entries_in_root v b is inline good = rw (is, inline, good) refl

pub leaves_by_list : (v : Volume) (b : ℕ) → is_some_index_root v b ≡ true → is_inline_index v b ≡ false → (leaves : List Leaf) (faults : List ℕ)
    → leaves ≡ (read_list v (ToClusters 3) b 0xc0 ((block_size v - 0xd0) / 16)).leaves → faults ≡ (read_list v (ToClusters 3) b 0xc0 ((block_size v - 0xd0) / 16)).faults
    → where_sound (is_none_of faults) leaves ≡ where_sound (is_sound_index_root v b) (index_list v b).leaves
unfolding is_sound_index_root index_list
leaves_by_list v b is outside leaves faults same none = rw (is, outside, same, none) refl

-- a block that is no index root, or whose index entries stand in it, has no list of leaves
pub no_leaves : (v : Volume) (b : ℕ) → (is_some_index_root v b && not (is_inline_index v b)) ≡ false → index_list v b ≡ nothing_read
unfolding index_list
no_leaves v b none = rw none refl

names_directory : (v : Volume) (d b : ℕ) → is_index_root v d b ≡ true → (dx_root v b).dir_blkno ≡ d
unfolding is_index_root
names_directory v d b is = grind (arith, nat_tests)

-- the index of a directory is the list in its root, where that is the directory's
pub list_of_index : (v : Volume) (d : ℕ) → is_index_root v d (index_root v d) ≡ true → index_extents v d ≡ index_list v (index_root v d)
unfolding index_extents index_list
list_of_index v d is = rw (names_directory v d (index_root v d) is) refl

-- ---- a refcount root
no_number : (n : ℕ) → (suc n == 0) ≡ false
no_number n = grind (arith, nat_tests)

pub none_by_length : (xs : List ℕ) → (length xs == 0) ≡ is_none_of xs
none_by_length [] = refl
none_by_length (x ∷ xs) = no_number (length xs)

pub no_leaf_blocks : (v : Volume) (b : ℕ) → has_leaf_blocks v b ≡ false → [] ≡ (leaf_list v b).leaves
unfolding leaf_list
no_leaf_blocks v b none = rw none refl

-- with no list the root itself is judged
pub no_list : (v : Volume) (b : ℕ) → has_leaf_blocks v b ≡ false → leaf_list v b ≡ nothing_read
unfolding leaf_list
no_list v b none = rw none refl

pub a_list : (v : Volume) (b : ℕ) → has_leaf_blocks v b ≡ true → leaf_list v b ≡ read_list v ToBlocks b 0x80 (most_in_refcount_block v)
unfolding leaf_list
a_list v b has = rw has refl

-- rows of its extent blocks
pub no_rows : (v : Volume) (b : ℕ) (rows : List ListBlock) → has_leaf_blocks v b ≡ false → rows ≡ [] → AreListBlocks v (leaf_list v b).blocks rows
no_rows v b rows none empty = rw (empty, no_list v b none) (record { listed = refl; each = tt })

pub rows_of_list : (v : Volume) (b : ℕ) (rows : List ListBlock) → has_leaf_blocks v b ≡ true → AreListBlocks v (read_list v ToBlocks b 0x80 (most_in_refcount_block v)).blocks rows → AreListBlocks v (leaf_list v b).blocks rows
rows_of_list v b rows has are = rw (a_list v b has) are

pub sound_block : (v : Volume) (b : ℕ) → has_leaf_blocks v b ≡ false → is_refcount_block v b ≡ is_sound_root_block v b
unfolding leaf_list
sound_block v b none = elim (cases_Bool (is_refcount_block v b)) [
  | inl is ↦ rw (none, is) refl
  | inr other ↦ rw other refl
]

pub leaves_of_list : (v : Volume) (b : ℕ) → has_leaf_blocks v b ≡ true → (read_list v ToBlocks b 0x80 (most_in_refcount_block v)).leaves ≡ (leaf_list v b).leaves
unfolding leaf_list
leaves_of_list v b has = rw has refl

-- with a list that is judged too
pub sound_list : (v : Volume) (b : ℕ) → has_leaf_blocks v b ≡ true → is_none_of (read_list v ToBlocks b 0x80 (most_in_refcount_block v)).faults ≡ is_sound_root_block v b
unfolding leaf_list
sound_list v b has =
    let is : is_refcount_block v b ≡ true = first_holds _ _ has in
    rw (has, is) refl
