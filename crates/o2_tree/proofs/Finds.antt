-- The row that a search by block finds among rows that rise, and what it tells where it finds none.
use Rattle.std.proofs.Common.{◌≡◌, inl, inr, ℕ, zero, suc, ◌+◌, ◌<◌, ◌≤◌, true, false, ◌==◌, nat_lt, List, [], ◌∷◌, length, map, get_or, Option, None, Some, IfSome, MatchOption, Err, Bor, refl, sym, ◌∙◌, ap, subst, arith}
use Rattle.std.specs.Option.{is_some}
use Rattle.std.specs.List.{range_with_len, AllByRecursion, HoldsAt}
use Rattle.std.specs.List.Sorted.{IsStrictlySortedBy, IsBinarySearchResult}
use Rattle.std.specs.Ordering.{nat_cmp, ordering_index}
use Rattle.std.specs.declared.cmp.Ordering.TheVariants.{Less, Equal}
use Rattle.std.proofs.lemmas.Bool.{cases_Bool, cases_lt, eqb-true, eq-eqb, lt-ltb, false≢true}
use Rattle.std.proofs.lemmas.Bool.Decides.{nat_tests}
use Rattle.std.proofs.lemmas.Cmp.{ranked}
use Rattle.std.proofs.lemmas.List.{get_or-map, length-map}
use Rattle.std.proofs.lemmas.List.Elements.{All-get_or, All-from_get_or, All-from_recursion}
use Rattle.std.proofs.lemmas.List.Folds.{list_any_none, list_any_at}
use Rattle.std.proofs.lemmas.List.FromFn.{length-range_with_len, get_or-range_with_len}
use Rattle.std.proofs.lemmas.List.Kept.{IsStrictlySortedBy-filter}
use Rattle.std.proofs.lemmas.List.Sorted.{IsNonDecreasingBy-from_default}
use Rattle.std.proofs.lemmas.Map.Keys.{below_from_sorted}
use Rattle.std.proofs.lemmas.Map.Views.{any-filter_same}
use Rattle.o2_model.specs.Volume.{Volume, blocks, is_valid}
use Rattle.o2_model.specs.Words.{among}
use Rattle.o2_model.specs.Inodes.{is_directory}
use Rattle.o2_model.specs.Groups.{inodes_of, is_inode}
use Rattle.o2_tables.specs.Rows.{IsInodeRow, IsInodeTable}
use Rattle.o2_tables.specs.declared.inodes.InodeRow.{InodeRow}
use Rattle.o2_tally.proofs.Sames.{any_map}
use Rattle.o2_tree.specs.TreeRows.{IsDirectoryRow, IsDirectoryTable, IsInodeAt, IsDirectoryAt, all_directories}
use Rattle.o2_tree.specs.declared.directories.DirectoryRow.{DirectoryRow}

-- ---- rows whose keys rise
module _ {A : Type 0} (key : A → ℕ) where
  -- the key of a row does not fall from a place to a later one
  no_less : (rows : List A) (d : A) → IsStrictlySortedBy nat_cmp (map key rows) → (i j : ℕ) → i ≤ j → j < length rows → key (get_or rows i d) ≤ key (get_or rows j d)
  no_less rows d sorted i j low within = elim (cases_lt i j) [
    | inl before ↦
        let less = below_from_sorted (map key rows) i j 0 sorted before (omega (arith, within, length-map rows key)) in
        omega (arith, less, get_or-map key rows i d 0 (omega (arith, before, within)), get_or-map key rows j d 0 within)
    | inr not_before ↦ let same : i ≡ j = omega arith in subst (λ k. key (get_or rows i d) ≤ key (get_or rows k d)) same (omega arith)
  ]

  -- so it is another than b at each place, where the search for b ends with none
  differs : (rows : List A) (d : A) (b at : ℕ) → IsStrictlySortedBy nat_cmp (map key rows) → IsBinarySearchResult (λ row. nat_cmp (key row) b) rows (Err at)
      → (k : ℕ) → k < length rows → (b == key (get_or rows k d)) ≡ false
  differs rows d b at sorted missed k within =
      let parted = missed (IsNonDecreasingBy-from_default (λ row. ordering_index (nat_cmp (key row) b)) rows d (λ i j low inside.
      let less = no_less rows d sorted i j low inside in
      grind (arith, nat_tests))) in
      elim (cases_lt k at) [
        | inl before ↦ let below : key (get_or rows k d) < b = ranked _ b _ (sym (parted.0 k d (omega arith) before)) in grind (arith, nat_tests)
        | inr behind ↦ let above : b < key (get_or rows k d) = ranked _ b _ (sym (parted.1 k d behind within)) in grind (arith, nat_tests)
      ]

  -- A key that a search among rows in order does not find is of none of them.
  pub nowhere_by : (rows : List A) (b at : ℕ) → IsStrictlySortedBy nat_cmp (map key rows) → IsBinarySearchResult (λ row. nat_cmp (key row) b) rows (Err at)
      → among (map key rows) b ≡ false
  nowhere_by [] b at sorted missed = refl
  nowhere_by (row ∷ rows) b at sorted missed =
      any_map key (λ m. b == m) (row ∷ rows)
      ∙ list_any_none (λ r. b == key r) (row ∷ rows) (All-from_get_or (λ r. (b == key r) ≡ false) (row ∷ rows) row (differs (row ∷ rows) row b at sorted missed))

  -- The row that the search ends at has the key.
  pub key_there : (rows : List A) (b at : ℕ) → HoldsAt (λ row. nat_cmp (key row) b ≡ Equal) rows at → (d : A) → key (get_or rows at d) ≡ b
  key_there rows b at equal d = ranked _ b _ (sym (equal d))

  -- So the key is one of the keys.
  pub among_there : (rows : List A) (b at : ℕ) → at < length rows → HoldsAt (λ row. nat_cmp (key row) b ≡ Equal) rows at → (d : A) → among (map key rows) b ≡ true
  among_there rows b at within equal d =
      any_map key (λ m. b == m) rows ∙ list_any_at (λ r. b == key r) rows at d within (eq-eqb b _ (sym (key_there rows b at equal d)))

-- What holds of the row at a place within the rows holds of the one that is lent from there.
pub lent_from : {A : Type 0} (P : A → Type 0) (Q : Type 0) (rows : List A) (at : ℕ) (row : Option (Bor A)) → at < length rows
    → is_some row ≡ nat_lt at (length rows) → IfSome row (λ r. r.now ≡ get_or rows at r.now) → ((d : A) → P (get_or rows at d)) → MatchOption row Q (λ r. P r.now)
lent_from P Q rows at None within is same holds = absurd (false≢true (is ∙ lt-ltb at (length rows) within))
lent_from P Q rows at (Some r) within is same holds = subst P (sym same) (holds r.now)

-- ---- the inodes and the directories rise
test_below : (a b : ℕ) → a < b → nat_cmp a b ≡ Less
test_below a b h = let test : nat_lt a b ≡ true = grind (arith, nat_tests) in rw test refl

all_above : (a b n : ℕ) → a < b → AllByRecursion (λ y. nat_cmp a y ≡ Less) (range_with_len b n)
all_above a b zero h = tt
all_above a b (suc n) h = (test_below a b h, all_above a (b + 1) n (omega (arith, h)))

range_rises : (a n : ℕ) → IsStrictlySortedBy nat_cmp (range_with_len a n)
unfolding IsStrictlySortedBy
range_rises a zero = tt
range_rises a (suc n) = (all_above a (a + 1) n (omega arith), range_rises (a + 1) n)

inodes_rise : (v : Volume) → IsStrictlySortedBy nat_cmp (inodes_of v)
unfolding inodes_of
inodes_rise v = IsStrictlySortedBy-filter nat_cmp (is_inode v) (range_with_len 0 (blocks v)) (range_rises 0 (blocks v))

directories_rise : (v : Volume) → IsStrictlySortedBy nat_cmp (all_directories v)
directories_rise v = IsStrictlySortedBy-filter nat_cmp (is_directory v) (inodes_of v) (inodes_rise v)

-- ---- which blocks are among the inodes
inode_within : (v : Volume) (b : ℕ) → is_inode v b ≡ true → b < blocks v
unfolding is_inode is_valid
inode_within v b is = grind (arith, nat_tests)

in_range : (b n : ℕ) → b < n → among (range_with_len 0 n) b ≡ true
in_range b n low =
    let there : b ≡ get_or (range_with_len 0 n) b 0 = omega (arith, get_or-range_with_len 0 n b 0 low) in
    list_any_at (λ m. b == m) (range_with_len 0 n) b 0 (omega (arith, low, length-range_with_len 0 n)) (eq-eqb b _ there)

among_inodes : (v : Volume) (b : ℕ) → among (inodes_of v) b ≡ is_inode v b
unfolding inodes_of
among_inodes v b =
    any-filter_same (λ m. b == m) (is_inode v) (is_inode v b) (λ k same. ap (is_inode v) (sym (eqb-true b k same))) (range_with_len 0 (blocks v))
    ∙ elim (cases_Bool (is_inode v b)) [
      | inl is ↦ rw is (in_range b (blocks v) (inode_within v b is))
      | inr other ↦ rw other refl
    ]

-- ---- the tables
module _ (v : Volume) (b at : ℕ) where
  pub inode_there : (rows : List InodeRow) → IsInodeTable v rows → at < length rows → HoldsAt (λ row. nat_cmp row.block b ≡ Equal) rows at
      → (d : InodeRow) → IsInodeAt v b (get_or rows at d)
  inode_there rows table within equal d = record {
    block = key_there (λ row. row.block) rows b at equal d;
    is = sym (among_inodes v b) ∙ (ap (λ ns. among ns b) (sym table.inodes) ∙ among_there (λ row. row.block) rows b at within equal d);
    says = All-get_or (IsInodeRow v) rows at d within (All-from_recursion (IsInodeRow v) rows table.each);
  }

  pub no_inode : (rows : List InodeRow) → IsInodeTable v rows → IsBinarySearchResult (λ row. nat_cmp row.block b) rows (Err at) → is_inode v b ≡ false
  no_inode rows table missed =
      let sorted = subst (IsStrictlySortedBy nat_cmp) (sym table.inodes) (inodes_rise v) in
      sym (among_inodes v b) ∙ (ap (λ ns. among ns b) (sym table.inodes) ∙ nowhere_by (λ row. row.block) rows b at sorted missed)

  pub directory_there : (rows : List DirectoryRow) → IsDirectoryTable v rows → at < length rows → HoldsAt (λ row. nat_cmp row.block b ≡ Equal) rows at
      → (d : DirectoryRow) → IsDirectoryAt v b (get_or rows at d)
  directory_there rows table within equal d = record {
    block = key_there (λ row. row.block) rows b at equal d;
    is = ap (λ ns. among ns b) (sym table.directories) ∙ among_there (λ row. row.block) rows b at within equal d;
    says = All-get_or (IsDirectoryRow v) rows at d within (All-from_recursion (IsDirectoryRow v) rows table.each);
  }

  pub no_directory : (rows : List DirectoryRow) → IsDirectoryTable v rows → IsBinarySearchResult (λ row. nat_cmp row.block b) rows (Err at)
      → among (all_directories v) b ≡ false
  no_directory rows table missed =
      let sorted = subst (IsStrictlySortedBy nat_cmp) (sym table.directories) (directories_rise v) in
      ap (λ ns. among ns b) (sym table.directories) ∙ nowhere_by (λ row. row.block) rows b at sorted missed
