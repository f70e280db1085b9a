-- The uses of rows, their counts and the blocks that are given out tell where META_BLOCK fails.
use Rattle.std.proofs.Common.{◌≡◌, inl, inr, ℕ, zero, suc, ◌+◌, ◌^◌, ◌<◌, Bool, true, false, ◌&&◌, ◌||◌, ◌==◌, nat_lt, nat_le, List, [], ◌∷◌, ◌++◌, map, flat_map, find, refl, sym, ◌∙◌, ap, arith}
use Rattle.std.specs.List.{AllByRecursion, range_with_len, list_any}
use Rattle.std.specs.Option.{option_map_or}
use Rattle.std.proofs.lemmas.Bool.{cases_Bool}
use Rattle.std.proofs.lemmas.Bool.Decides.{nat_tests}
use Rattle.o2_model.specs.declared.allocator.Group.{Group}
use Rattle.o2_model.specs.declared.check.Check.TheVariants as check
use Rattle.o2_model.specs.Faults.{fails_at}
use Rattle.o2_model.specs.Volume.{Volume, blocks}
use Rattle.o2_model.specs.Allocators.{are_metadata}
use Rattle.o2_model.specs.Inodes.{extent_blocks_of}
use Rattle.o2_model.specs.Groups.{groups, inodes_of}
use Rattle.o2_model.specs.RefcountTrees.{refcount_roots, refcount_tree_blocks, leaf_list}
use Rattle.o2_model.specs.Metadata.{is_on_bit, is_on_metadata_bit, group_with_bit, metadata_blocks, list_blocks, refcount_blocks}
use Rattle.o2_model.specs.Checks.MetaBlock.{is_sound_metadata_block}
use Rattle.o2_model.specs.Files.{times_in}
use Rattle.o2_model.specs.Failing.{faults}
use Rattle.o2_tables.specs.declared.groups.GroupRow.{GroupRow}
use Rattle.o2_tables.specs.declared.inodes.InodeRow.{InodeRow}
use Rattle.o2_tables.specs.declared.refcounts.RefcountTreeRow.{RefcountTreeRow}
use Rattle.o2_tables.specs.Rows.{IsGroupTable, IsInodeTable, IsRefcountTreeRow, IsRefcountTreeTable}
use Rattle.o2_tally.specs.Gathered.{IsCount, count_of}
use Rattle.o2_tally.specs.declared.counts.Counts.{Counts}
use Rattle.o2_view.specs.Plans.{is_in_runs}
use Rattle.o2_judges_alloc.specs.MetadataRows.{blocks_of_lists, blocks_of_tree, uses_of, gives, AreGiven, is_sound_use}
use Rattle.o2_judges_alloc.proofs.GoodGroups.{within}
use Rattle.o2_judges_alloc.proofs.GroupsTold.{IsGoodRow, good_rows, metadata_not_clusters}
use Rattle.o2_judges_alloc.proofs.RowsTold.{each_is, same_those}

-- ---- over rows of items
-- What rows list is what their items list, one behind the other.
pub flat_rows : {A B : Type 0} (item : A → B) (listed : A → List ℕ) (told : B → List ℕ) (rows : List A) (items : List B)
    → map item rows ≡ items → AllByRecursion (λ r. listed r ≡ told (item r)) rows → flat_map listed rows ≡ flat_map told items
flat_rows {A = A} {B = B} item listed told rows items are each = go rows each ∙ ap (flat_map told) are
  where
    go : (rs : List A) → AllByRecursion (λ r. listed r ≡ told (item r)) rs → flat_map listed rs ≡ flat_map told (map item rs)
    go [] all = refl
    go (r ∷ rs) all = ap (λ ns. ns ++ flat_map listed rs) all.0 ∙ ap (λ ns. told (item r) ++ ns) (go rs all.1)

-- One of the rows passes where one of their items does.
pub any_row : {A B : Type 0} (item : A → B) (p : A → Bool) (q : B → Bool) (rows : List A) (items : List B)
    → map item rows ≡ items → AllByRecursion (λ r. p r ≡ q (item r)) rows → list_any p rows ≡ list_any q items
any_row {A = A} {B = B} item p q rows items are each = go rows each ∙ ap (list_any q) are
  where
    go : (rs : List A) → AllByRecursion (λ r. p r ≡ q (item r)) rs → list_any p rs ≡ list_any q (map item rs)
    go [] all = refl
    go (r ∷ rs) all = ap (λ b. b || list_any p rs) all.0 ∙ ap (λ b. q (item r) || b) (go rs all.1)

found_any : {A : Type 0} (p : A → Bool) (xs : List A) → option_map_or (λ x. true) (find p xs) false ≡ list_any p xs
found_any p [] = refl
found_any p (x ∷ xs) = elim (cases_Bool (p x)) [
  | inl here ↦ rw here refl
  | inr later ↦ rw later (found_any p xs)
]

-- ---- the blocks that are given out
-- of the bits from `a` on
bit_above : (s b a n : ℕ) → option_map_or (λ k. nat_lt 0 k) (find (λ k. s + k == b) (range_with_len a n)) false ≡ (nat_lt s b && nat_le (s + a) b && nat_lt b (s + a + n))
bit_above s b a zero = grind (arith, nat_tests)
bit_above s b a (suc n) = elim (cases_Bool (s + a == b)) [
  | inl here ↦ rw here (first s b a n here)
  | inr later ↦ rw later (bit_above s b (a + 1) n ∙ next s b a n later)
]
  where
    first : (s b a n : ℕ) → (s + a == b) ≡ true → nat_lt 0 a ≡ (nat_lt s b && nat_le (s + a) b && nat_lt b (s + a + suc n))
    first s b a n here = grind (arith, nat_tests)

    next : (s b a n : ℕ) → (s + a == b) ≡ false → (nat_lt s b && nat_le (s + (a + 1)) b && nat_lt b (s + (a + 1) + n)) ≡ (nat_lt s b && nat_le (s + a) b && nat_lt b (s + a + suc n))
    next s b a n later = grind (arith, nat_tests)

on_bit : (v : Volume) (b : ℕ) (g : Group) → (nat_lt g.block b && nat_lt b (g.block + g.bits)) ≡ is_on_bit v b g
on_bit v b g = above g.block g.bits b ∙ sym (bit_above g.block b 0 g.bits)
  where
    above : (s n b : ℕ) → (nat_lt s b && nat_lt b (s + n)) ≡ (nat_lt s b && nat_le (s + 0) b && nat_lt b (s + 0 + n))
    above s n b = grind (arith, nat_tests)

fits : (n m : ℕ) → n < m → nat_lt n m ≡ true
fits n m low = grind (arith, nat_tests)

row_gives : (v : Volume) (b : ℕ) (r : GroupRow) → blocks v < 2 ^ 64 → IsGoodRow v r → gives b r ≡ (are_metadata r.group.of.bit_use && is_on_bit v b r.group)
row_gives v b r few is = elim (cases_Bool (are_metadata r.group.of.bit_use)) [
  | inr other ↦ rw other refl
  | inl metadata ↦
      let end = within v r.group is.good (metadata_not_clusters r.group.of.bit_use metadata) in
      let numbers : nat_lt (r.group.block + r.group.bits) (2 ^ 64) ≡ true = fits _ _ (omega (arith, end, few)) in
      rw (metadata, numbers) (on_bit v b r.group)
]

given_is : (v : Volume) (rows : List GroupRow) (runs : List (ℕ × ℕ)) → blocks v < 2 ^ 64 → IsGroupTable v rows → AreGiven rows runs → (b : ℕ) → is_in_runs runs b ≡ is_on_metadata_bit v b
unfolding group_with_bit
given_is v rows runs few table are b =
    are.each b
    ∙ (any_row (λ r. r.group) (gives b) (λ g. are_metadata g.of.bit_use && is_on_bit v b g) rows (groups v) table.groups
    (each_is (λ r is. row_gives v b r few is) rows (good_rows v rows table))
    ∙ sym (found_any (λ g. are_metadata g.of.bit_use && is_on_bit v b g) (groups v)))

-- ---- the uses
tree_is : (v : Volume) (t : RefcountTreeRow) → IsRefcountTreeRow v t → blocks_of_tree t ≡ refcount_tree_blocks v t.root.block
unfolding refcount_tree_blocks
tree_is v t is =
    ap (λ bs. t.root.block ∷ bs ++ map (λ x. x.block) t.leaves) is.extent_blocks.listed
    ∙ ap (λ bs. t.root.block ∷ (leaf_list v t.root.block).blocks ++ bs) is.named

pub uses_are : (v : Volume) (inodes : List InodeRow) (trees : List RefcountTreeRow) → IsInodeTable v inodes → IsRefcountTreeTable v trees → uses_of inodes trees ≡ metadata_blocks v
unfolding metadata_blocks list_blocks refcount_blocks
uses_are v inodes trees first second =
    ap (λ bs. bs ++ flat_map blocks_of_tree trees) (flat_rows (λ r. r.block) blocks_of_lists (extent_blocks_of v) inodes (inodes_of v) first.inodes (each_is (λ r is. is.extent_blocks.listed) inodes first.each))
    ∙ ap (λ bs. flat_map (extent_blocks_of v) (inodes_of v) ++ bs) (flat_rows (λ t. t.root.block) blocks_of_tree (refcount_tree_blocks v) trees (refcount_roots v) second.roots (each_is (λ t is. tree_is v t is) trees second.each))

-- ---- META_BLOCK
module _ (v : Volume) (given : List (ℕ × ℕ)) (counts : Counts) (uses : List ℕ) (are : (b : ℕ) → is_in_runs given b ≡ is_on_metadata_bit v b) (counted : IsCount uses counts) (same : uses ≡ metadata_blocks v) where
  sound_is : (b : ℕ) → is_sound_use given counts b ≡ is_sound_metadata_block v b
  unfolding is_sound_metadata_block
  sound_is b =
      ap (λ x. x && count_of counts b == 1) (are b)
      ∙ ap (λ n. is_on_metadata_bit v b && n == 1) (counted.each b ∙ ap (λ bs. times_in bs b) same)

  pub uses_told : fails_at (λ b. b) (is_sound_use given counts) uses ≡ faults v check.MetaBlock
  unfolding faults
  uses_told =
      ap (map (λ b. b)) (same_those (is_sound_use given counts) (is_sound_metadata_block v) sound_is uses)
      ∙ ap (fails_at (λ b. b) (is_sound_metadata_block v)) same

pub meta_told : (v : Volume) (rows : List GroupRow) (inodes : List InodeRow) (trees : List RefcountTreeRow) (given : List (ℕ × ℕ)) (counts : Counts) (uses : List ℕ)
    → AreGiven rows given → uses ≡ uses_of inodes trees → IsCount uses counts → blocks v < 2 ^ 64 → IsGroupTable v rows → IsInodeTable v inodes → IsRefcountTreeTable v trees
    → fails_at (λ b. b) (is_sound_use given counts) uses ≡ faults v check.MetaBlock
meta_told v rows inodes trees given counts uses are listed counted few groups first second =
    uses_told v given counts uses (given_is v rows given few groups are) counted (listed ∙ uses_are v inodes trees first second)
