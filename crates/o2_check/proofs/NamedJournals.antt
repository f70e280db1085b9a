-- What was found out of the inodes that the system directory names, and of those that are kept.
use Rattle.std.proofs.Common.{◌≡◌, inl, inr, ℕ, ◌+◌, ◌<◌, Bool, true, false, ◌&&◌, ◌||◌, not, ◌==◌, nat_lt, List, [], ◌∷◌, ◌++◌, map, filter, get_or, refl, sym, ◌∙◌, ap, arith}
use Rattle.std.specs.BTreeSet.{BTreeSet}
use Rattle.std.specs.List.{list_all, range_with_len}
use Rattle.std.specs.Prelude.{flat_map}
use Rattle.std.proofs.lemmas.Bool.{cases_Bool, eqb-true, eq-eqb}
use Rattle.std.proofs.lemmas.Bool.Decides.{nat_tests}
use Rattle.std.proofs.lemmas.List.Folds.{list_any_at}
use Rattle.std.proofs.lemmas.List.FromFn.{length-range_with_len, get_or-range_with_len}
use Rattle.std.proofs.lemmas.Map.Views.{any-filter_same}
use Rattle.o2_model.specs.declared.check.Check.TheVariants as check
use Rattle.o2_model.specs.Words.{among}
use Rattle.o2_model.specs.Orders.{rising}
use Rattle.o2_model.specs.Volume.{Volume, blocks, is_in_range, is_valid}
use Rattle.o2_model.specs.Directories.{directory_entries, own_inodes}
use Rattle.o2_model.specs.Groups.{inodes_of, is_inode}
use Rattle.o2_model.specs.Indexes.{index_blocks}
use Rattle.o2_model.specs.Metadata.{metadata_blocks}
use Rattle.o2_model.specs.Checks.BlockAllocBit.{blocks_in_use}
use Rattle.o2_model.specs.Checks.Dx.{directories_with_sound_index}
use Rattle.o2_model.specs.Checks.JournalDirty.{journal_dirty_faults}
use Rattle.o2_model.specs.Failing.{faults}
use Rattle.o2_survey.specs.SystemInodes.{named_by}
use Rattle.o2_tables.specs.Rows.{IsInodeTable}
use Rattle.o2_tables.specs.declared.inodes.InodeRow.{InodeRow}
use Rattle.o2_tree.specs.TreeWalks.{AreOwn}
use Rattle.o2_check.specs.Given.{is_given_by}

-- ---- inodes that the system directory names
all_so : (p q : ℕ → Bool) → ((n : ℕ) → p n ≡ true → q n ≡ true) → (ns : List ℕ) → list_all p ns ≡ true → list_all q ns ≡ true
all_so p q so [] all = refl
all_so p q so (n ∷ ns) all = elim (cases_Bool (p n)) [
  | inl is ↦ rw (so n is) (all_so p q so ns (rw is at all))
  | inr other ↦ let no = rw other at all in cc
]

module _ (v : Volume) (own : BTreeSet ℕ) (are : AreOwn v own) where
  is_named : (b : ℕ) → is_given_by v.geo own b ≡ true → among (named_by (directory_entries v v.geo.sysdir)) b ≡ true
  unfolding own_inodes
  is_named b given = elim (cases_Bool (b == v.geo.sysdir)) [
    | inl same ↦ let no = rw same at given in elim (cases_Bool (nat_lt 0 b && nat_lt b (blocks v))) [
      | inl within ↦ let never = rw within at no in cc
      | inr out ↦ let never = rw out at no in cc
    ]
    | inr other ↦ elim (cases_Bool (nat_lt 0 b && nat_lt b (blocks v))) [
      | inl within ↦
          let has = rw (other, within, are.each b) at given in
          rw other at has
      | inr out ↦ let never = rw out at given in cc
    ]
  ]

  is_inside : (b : ℕ) → is_given_by v.geo own b ≡ true → is_in_range v b ≡ true
  is_inside b given = elim (cases_Bool (nat_lt 0 b && nat_lt b (blocks v))) [
    | inl within ↦ within
    | inr out ↦ let never = rw out at given in cc
  ]

  pub all_named : (ns : List ℕ) → list_all (is_given_by v.geo own) ns ≡ true → list_all (among (named_by (directory_entries v v.geo.sysdir))) ns ≡ true
  all_named ns all = all_so (is_given_by v.geo own) (among (named_by (directory_entries v v.geo.sysdir))) is_named ns all

  pub all_inside : (ns : List ℕ) → list_all (is_given_by v.geo own) ns ≡ true → list_all (is_in_range v) ns ≡ true
  all_inside ns all = all_so (is_given_by v.geo own) (is_in_range v) is_inside ns all

pub dirty_told : (v : Volume) (found : List ℕ) → rising found ≡ rising (journal_dirty_faults v) → rising found ≡ rising (faults v check.JournalDirty)
unfolding faults
dirty_told v found same = same

-- ---- blocks in use
pub in_use_are : (v : Volume) (uses more : List ℕ) → uses ≡ metadata_blocks v → more ≡ flat_map (index_blocks v) (directories_with_sound_index v) → uses ++ more ≡ blocks_in_use v
unfolding blocks_in_use
in_use_are v uses more first second = rw (first, second) refl

-- ---- inodes
inode_within : (v : Volume) (b : ℕ) → is_inode v b ≡ true → b < blocks v
unfolding is_inode is_valid
inode_within v b is = grind (arith, nat_tests)

in_range : (b n : ℕ) → b < n → among (range_with_len 0 n) b ≡ true
in_range b n low =
    let there : b ≡ get_or (range_with_len 0 n) b 0 = omega (arith, get_or-range_with_len 0 n b 0 low) in
    list_any_at (λ m. b == m) (range_with_len 0 n) b 0 (omega (arith, low, length-range_with_len 0 n)) (eq-eqb b _ there)

among_inodes : (v : Volume) (b : ℕ) → among (inodes_of v) b ≡ is_inode v b
unfolding inodes_of
among_inodes v b =
    any-filter_same (λ m. b == m) (is_inode v) (is_inode v b) (λ k same. ap (is_inode v) (sym (eqb-true b k same))) (range_with_len 0 (blocks v))
    ∙ elim (cases_Bool (is_inode v b)) [
      | inl is ↦ rw is (in_range b (blocks v) (inode_within v b is))
      | inr other ↦ rw other refl
    ]

pub inodes_are : (v : Volume) (rows : List InodeRow) → IsInodeTable v rows → (b : ℕ) → among (map (λ r. r.block) rows) b ≡ is_inode v b
inodes_are v rows table b = ap (λ ns. among ns b) table.inodes ∙ among_inodes v b
