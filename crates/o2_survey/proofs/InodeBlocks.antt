-- Rows tell which blocks stand for set bits of groups of inodes.
use Rattle.std.proofs.Common.{◌≡◌, inl, inr, ℕ, zero, suc, ◌+◌, ◌-◌, ◌^◌, ◌<◌, ◌≤◌, Bool, true, false, cond, ◌||◌, ◌&&◌, ◌==◌, nat_lt, List, [], ◌∷◌, ◌++◌, map, filter, find, refl, sym, ◌∙◌, ap, subst, arith}
use Rattle.std.specs.Prelude.{flat_map}
use Rattle.std.specs.List.{range_with_len, list_any, AllByRecursion}
use Rattle.std.specs.Option.{option_map_or}
use Rattle.std.proofs.Math.Nat.{mod-eq_of_lt}
use Rattle.std.proofs.lemmas.Bool.{cases_Bool, cases_lt, false≢true}
use Rattle.std.proofs.lemmas.Bool.Decides.{nat_tests}
use Rattle.std.proofs.lemmas.List.{append_assoc}
use Rattle.o2_model.specs.declared.allocator.BitUse.{BitUse}
use Rattle.o2_model.specs.declared.allocator.BitUse.TheVariants.{Clusters, Inodes, Metadata}
use Rattle.o2_model.specs.declared.allocator.Group.{Group}
use Rattle.o2_model.specs.Words.{among}
use Rattle.o2_model.specs.Orders.{rising}
use Rattle.o2_model.specs.Volume.{Volume, blocks}
use Rattle.o2_model.specs.Allocators.{are_clusters, are_inodes}
use Rattle.o2_model.specs.Groups.{groups, is_bit_set, is_bit_set_in, is_of_clusters, is_on_set_bit, has_inode_bit}
use Rattle.o2_tables.specs.Rows.{IsGroupRow, IsGroupTable}
use Rattle.o2_tables.specs.declared.groups.GroupRow.{GroupRow}
use Rattle.o2_tally.proofs.Sames.{any_map}
use Rattle.o2_survey.specs.GroupRows.{block_at, blocks_on_bits, inode_blocks_of}
use Rattle.o2_survey.proofs.GoodGroups.{IsGoodGroup, groups_good, within}
use Rattle.o2_survey.proofs.Members.{any_filter, any_flat_map, rising_is}

-- ---- the bit of a block
-- the test of a bit: it stands for block b, and passes
abbrev at_bit : (ℕ → Bool) → ℕ → ℕ → ℕ → Bool
at_bit f first b k = (b == first + k) && f k

none_later : (f : ℕ → Bool) (first b c n : ℕ) → b < first + c → list_any (at_bit f first b) (range_with_len c n) ≡ false
none_later f first b c zero low = refl
none_later f first b c (suc n) low =
    let other : (b == first + c) ≡ false = grind (arith, nat_tests) in
    rw other (none_later f first b (c + 1) n (omega (arith, low)))

none_beyond : (f : ℕ → Bool) (first b c n : ℕ) → first + (c + n) ≤ b → list_any (at_bit f first b) (range_with_len c n) ≡ false
none_beyond f first b c zero high = refl
none_beyond f first b c (suc n) high =
    let other : (b == first + c) ≡ false = grind (arith, nat_tests) in
    rw other (none_beyond f first b (c + 1) n (omega (arith, high)))

or_false : (x : Bool) → x ≡ (x || false)
or_false true = refl
or_false false = refl

turned : (a b : ℕ) (t : Bool) → (a == b) ≡ t → (b == a) ≡ t
turned a b true h = grind (arith, nat_tests)
turned a b false h = grind (arith, nat_tests)

is_at : (a b : ℕ) → (a == b) ≡ true → a ≡ b
is_at a b h = grind (arith, nat_tests)

-- the first bit that stands for the block is the only one
find_any : (f : ℕ → Bool) (first b c n : ℕ) → option_map_or f (find (λ k. first + k == b) (range_with_len c n)) false ≡ list_any (at_bit f first b) (range_with_len c n)
find_any f first b c zero = refl
find_any f first b c (suc n) = elim (cases_Bool (first + c == b)) [
  | inl here ↦
      let same = is_at (first + c) b here in
      let none = none_later f first b (c + 1) n (omega (arith, same)) in
      rw (here, turned (first + c) b true here, none) (or_false (f c))
  | inr other ↦ rw (other, turned (first + c) b false other) (find_any f first b (c + 1) n)
]

-- ---- bits above 0
and_false : (x : Bool) → (x && false) ≡ false
and_false true = refl
and_false false = refl

same_any : (p q : ℕ → Bool) (a n : ℕ) → ((k : ℕ) → a ≤ k → k < a + n → p k ≡ q k) → list_any p (range_with_len a n) ≡ list_any q (range_with_len a n)
same_any p q a zero same = refl
same_any p q a (suc n) same = rw (same a (omega arith) (omega arith), same_any p q (a + 1) n (λ k low high. same k (omega (arith, low)) (omega (arith, high)))) refl

above_zero : (f p : ℕ → Bool) (first b n : ℕ) → ((k : ℕ) → 1 ≤ k → k < n → p k ≡ at_bit f first b k)
    → list_any p (range_with_len 1 (n - 1)) ≡ list_any (at_bit (λ k. nat_lt 0 k && f k) first b) (range_with_len 0 n)
above_zero f p first b zero same = refl
above_zero f p first b (suc n) same =
    let less : suc n - 1 ≡ n = omega arith in
    rw (less, and_false (b == first + 0)) (same_any p (at_bit (λ k. nat_lt 0 k && f k) first b) 1 n (λ k low high. same k low (omega (arith, high)) ∙ ap (λ t. (b == first + k) && (t && f k)) (sym (positive k low))))
  where
    positive : (k : ℕ) → 1 ≤ k → nat_lt 0 k ≡ true
    positive k low = grind (arith, nat_tests)

-- ---- a row
not_clusters : (u : BitUse) → are_inodes u ≡ true → are_clusters u ≡ false
not_clusters Clusters h = cc
not_clusters Inodes h = refl
not_clusters Metadata h = refl

module _ (v : Volume) (few : blocks v < 2 ^ 64) where
  on_bits : (r : GroupRow) (b : ℕ) → IsGroupRow v r → IsGoodGroup v r.group → is_of_clusters r.group ≡ false → among (blocks_on_bits r) b ≡ is_on_set_bit v b r.group
  on_bits r b is good other =
      let g = r.group in
      let set = is_bit_set v g.block in
      let bits = range_with_len 1 (g.bits - 1) in
      let end = within v g good other in
      any_map (block_at r) (λ m. b == m) (filter (λ k. is_bit_set_in 0 r.bitmap k) bits)
      ∙ (any_filter (λ k. is_bit_set_in 0 r.bitmap k) (λ k. b == block_at r k) bits
      ∙ (above_zero set (λ k. (b == block_at r k) && is_bit_set_in 0 r.bitmap k) g.block b g.bits
      (λ k low high.
      let fits : g.block + k < 2 ^ 64 = omega (arith, end, high, few) in
      ap (λ n. (b == n) && is_bit_set_in 0 r.bitmap k) (mod-eq_of_lt fits) ∙ ap (λ t. (b == g.block + k) && t) (is.bits k high))
      ∙ sym (find_any (λ k. nat_lt 0 k && set k) g.block b 0 g.bits)))

  of_row : (r : GroupRow) (b : ℕ) → IsGroupRow v r → IsGoodGroup v r.group → among (inode_blocks_of r) b ≡ (are_inodes r.group.of.bit_use && is_on_set_bit v b r.group)
  of_row r b is good = elim (cases_Bool (are_inodes r.group.of.bit_use)) [
    | inl inodes ↦ rw inodes (on_bits r b is good (not_clusters r.group.of.bit_use inodes))
    | inr others ↦ rw others refl
  ]

  of_rows : (rows : List GroupRow) (b : ℕ) → AllByRecursion (IsGroupRow v) rows → AllByRecursion (IsGoodGroup v) (map (λ r. r.group) rows)
      → list_any (λ r. among (inode_blocks_of r) b) rows ≡ list_any (λ g. are_inodes g.of.bit_use && is_on_set_bit v b g) (map (λ r. r.group) rows)
  of_rows [] b each good = refl
  of_rows (r ∷ rows) b each good = rw (of_row r b each.0 good.0, of_rows rows b each.1 good.1) refl

-- ---- no block is beyond the volume
not_on_bit : (v : Volume) (b : ℕ) (g : Group) → IsGoodGroup v g → is_of_clusters g ≡ false → blocks v ≤ b → is_on_set_bit v b g ≡ false
not_on_bit v b g good other high =
    let end = within v g good other in
    find_any (λ k. nat_lt 0 k && is_bit_set v g.block k) g.block b 0 g.bits ∙ none_beyond (λ k. nat_lt 0 k && is_bit_set v g.block k) g.block b 0 g.bits (omega (arith, end, high))

none_of_groups : (v : Volume) (b : ℕ) (gs : List Group) → AllByRecursion (IsGoodGroup v) gs → blocks v ≤ b → list_any (λ g. are_inodes g.of.bit_use && is_on_set_bit v b g) gs ≡ false
none_of_groups v b [] good high = refl
none_of_groups v b (g ∷ gs) good high = elim (cases_Bool (are_inodes g.of.bit_use)) [
  | inl inodes ↦ rw (inodes, not_on_bit v b g good.0 (not_clusters g.of.bit_use inodes) high) (none_of_groups v b gs good.1 high)
  | inr others ↦ rw others (none_of_groups v b gs good.1 high)
]

pub inside : (v : Volume) (b : ℕ) → has_inode_bit v b ≡ true → b < blocks v
inside v b is = elim (cases_lt b (blocks v)) [
  | inl low ↦ low
  | inr high ↦ absurd (false≢true (sym (none_of_groups v b (groups v) (groups_good v) high) ∙ is))
]

-- The blocks of all rows, in order, are those that stand for a set bit.
pub inode_blocks_told : (v : Volume) (rows : List GroupRow) → blocks v < 2 ^ 64 → IsGroupTable v rows → rising (flat_map inode_blocks_of rows) ≡ filter (has_inode_bit v) (range_with_len 0 (blocks v))
inode_blocks_told v rows few table =
    rising_is (has_inode_bit v) (blocks v) (flat_map inode_blocks_of rows) (inside v)
    (λ b. any_flat_map inode_blocks_of (λ m. b == m) rows
    ∙ (of_rows v few rows b table.each (subst (AllByRecursion (IsGoodGroup v)) (sym table.groups) (groups_good v))
    ∙ ap (list_any (λ g. are_inodes g.of.bit_use && is_on_set_bit v b g)) table.groups))

-- ---- one bit more
first_in_range : (k n : ℕ) → k < n → range_with_len k (n - k) ≡ k ∷ range_with_len (k + 1) (n - (k + 1))
first_in_range k n low =
    let some : n - k ≡ suc (n - (k + 1)) = omega (arith, low) in
    rw some refl

abbrev left : GroupRow → ℕ → List ℕ
left r k = map (block_at r) (filter (λ j. is_bit_set_in 0 r.bitmap j) (range_with_len k (r.group.bits - k)))

bit_left : (r : GroupRow) (k : ℕ) → k < r.group.bits → left r k ≡ cond (is_bit_set_in 0 r.bitmap k) (block_at r k ∷ left r (k + 1)) (left r (k + 1))
bit_left r k low =
    ap (λ ks. map (block_at r) (filter (λ j. is_bit_set_in 0 r.bitmap j) ks)) (first_in_range k r.group.bits low) ∙ by (is_bit_set_in 0 r.bitmap k)
  where
    by : (t : Bool) → map (block_at r) (cond t (k ∷ filter (λ j. is_bit_set_in 0 r.bitmap j) (range_with_len (k + 1) (r.group.bits - (k + 1)))) (filter (λ j. is_bit_set_in 0 r.bitmap j) (range_with_len (k + 1) (r.group.bits - (k + 1)))))
        ≡ cond t (block_at r k ∷ left r (k + 1)) (left r (k + 1))
    by true = refl
    by false = refl

pub set_bit_more : (r : GroupRow) (k : ℕ) (found more all : List ℕ) → k < r.group.bits → is_bit_set_in 0 r.bitmap k ≡ true → found ++ left r k ≡ all → more ≡ found ++ block_at r k ∷ [] → more ++ left r (k + 1) ≡ all
set_bit_more r k found more all low set before put =
    rw put (append_assoc found (block_at r k ∷ []) (left r (k + 1)) ∙ (ap (λ bs. found ++ bs) (sym (bit_left r k low ∙ ap (λ t. cond t (block_at r k ∷ left r (k + 1)) (left r (k + 1))) set)) ∙ before))

pub clear_bit_more : (r : GroupRow) (k : ℕ) (found more all : List ℕ) → k < r.group.bits → is_bit_set_in 0 r.bitmap k ≡ false → found ++ left r k ≡ all → more ≡ found → more ++ left r (k + 1) ≡ all
clear_bit_more r k found more all low clear before same =
    rw same (ap (λ bs. found ++ bs) (sym (bit_left r k low ∙ ap (λ t. cond t (block_at r k ∷ left r (k + 1)) (left r (k + 1))) clear)) ∙ before)
