-- The first of what is not supported.
use Rattle.std.proofs.Common.{◌≡◌, inl, inr, ℕ, Bool, true, false, ◌&&◌, List, [], ◌∷◌, ◌++◌, map, filter, find, refl, sym, ◌∙◌, ap, Option, Some, None}
use Rattle.std.specs.Prelude.{option_map}
use Rattle.std.specs.List.{AllByRecursion}
use Rattle.std.specs.Ordering.{nat_cmp}
use Rattle.std.proofs.lemmas.Bool.{cases_Bool}
use Rattle.std.proofs.lemmas.List.Kept.{IsStrictlySortedBy-filter}
use Rattle.o2_ondisk.specs.Bits.{has_bits, dio_orphaned_inode_flag}
use Rattle.o2_ondisk.specs.declared.flags.InodeFlags.{InodeFlags}
use Rattle.o2_model.specs.declared.oddity.Oddity.{Oddity}
use Rattle.o2_model.specs.declared.oddity.Oddity.TheVariants.{DiscontiguousGroup, Attributes, DioOrphan}
use Rattle.o2_model.specs.Orders.{rising, first_of}
use Rattle.o2_model.specs.Volume.{Volume, dinode}
use Rattle.o2_model.specs.Groups.{groups, inodes_of}
use Rattle.o2_model.specs.Structures.{is_discontiguous, discontiguous_groups, inodes_with_attributes, direct_write_orphans, each_for, unsupported_structure}
use Rattle.o2_tally.proofs.Sames.{any_rising, rising_rises, sorted_same}
use Rattle.o2_tables.specs.Rows.{IsInodeRow, IsInodeTable}
use Rattle.o2_tables.specs.declared.inodes.InodeRow.{InodeRow}
use Rattle.o2_judges_inodes.proofs.MetRows.{any_filter}
use Rattle.o2_check.specs.Oddities.{is_marked, first_marked}

-- ---- numbers in order that pass a test
rising_filter : (p : ℕ → Bool) (ns : List ℕ) → rising (filter p ns) ≡ filter p (rising ns)
rising_filter p ns =
    sorted_same (rising (filter p ns)) (filter p (rising ns)) (rising_rises (filter p ns)) (IsStrictlySortedBy-filter nat_cmp p (rising ns) (rising_rises ns))
    (λ q. any_rising q (filter p ns) ∙ (any_filter q p ns ∙ (sym (any_rising (λ n. p n && q n) ns) ∙ sym (any_filter q p (rising ns)))))

-- ---- the first of lists that follow one another
first_here : {A : Type 0} (xs ys : List A) (x : A) → first_of xs ≡ Some x → first_of (xs ++ ys) ≡ Some x
first_here [] ys x is = let no = is in cc
first_here (y ∷ xs) ys x is = is

first_behind : {A : Type 0} (xs ys : List A) → first_of xs ≡ None → first_of (xs ++ ys) ≡ first_of ys
first_behind [] ys none = refl
first_behind (x ∷ xs) ys none = let no = none in cc

first_each : (reason : Oddity) (bs : List ℕ) → first_of (each_for reason bs) ≡ option_map (λ b. (reason, b)) (first_of bs)
first_each reason [] = refl
first_each reason (b ∷ bs) = refl

-- ---- orphans of direct writes by their rows
first_by_rows : (v : Volume) (rows : List InodeRow) → AllByRecursion (IsInodeRow v) rows
    → first_of (filter (λ b. has_bits (dinode v b).flags.0 dio_orphaned_inode_flag) (map (λ r. r.block) rows)) ≡ first_marked rows
first_by_rows v [] each = refl
first_by_rows v (r ∷ rs) each =
    let same : is_marked r ≡ has_bits (dinode v r.block).flags.0 dio_orphaned_inode_flag = ap (λ (f : InodeFlags). has_bits f.0 dio_orphaned_inode_flag) each.0.flags in
    elim (cases_Bool (is_marked r)) [
      | inl is ↦ rw (is, sym same ∙ is) refl
      | inr other ↦ rw (other, sym same ∙ other) (first_by_rows v rs each.1)
    ]

module _ (v : Volume) where
  orphan_told : (rows : List InodeRow) → IsInodeTable v rows → first_of (direct_write_orphans v) ≡ first_marked rows
  orphan_told rows table = ap (λ bs. first_of (filter (λ b. has_bits (dinode v b).flags.0 dio_orphaned_inode_flag) bs)) (sym table.inodes) ∙ first_by_rows v rows table.each

  group_told : (found : List ℕ) → found ≡ filter (is_discontiguous v) (map (λ g. g.block) (groups v)) → first_of (rising found) ≡ first_of (discontiguous_groups v)
  group_told found are = ap (λ bs. first_of (rising bs)) are ∙ ap first_of (rising_filter (is_discontiguous v) (map (λ g. g.block) (groups v)))

  -- each kind, by its first
  groups_first : (found : List ℕ) → found ≡ filter (is_discontiguous v) (map (λ g. g.block) (groups v))
      → first_of (each_for DiscontiguousGroup (discontiguous_groups v)) ≡ option_map (λ b. (DiscontiguousGroup, b)) (first_of (rising found))
  groups_first found are = first_each DiscontiguousGroup (discontiguous_groups v) ∙ ap (option_map (λ b. (DiscontiguousGroup, b))) (sym (group_told found are))

  orphans_first : (rows : List InodeRow) → IsInodeTable v rows → first_of (each_for DioOrphan (direct_write_orphans v)) ≡ option_map (λ b. (DioOrphan, b)) (first_marked rows)
  orphans_first rows table = first_each DioOrphan (direct_write_orphans v) ∙ ap (option_map (λ b. (DioOrphan, b))) (orphan_told rows table)

  abbrev of_groups : List (Oddity × ℕ)
  of_groups = each_for DiscontiguousGroup (discontiguous_groups v)

  abbrev with_attributes : List (Oddity × ℕ)
  with_attributes = each_for Attributes (inodes_with_attributes v)

  module _ (found : List ℕ) (rows : List InodeRow) (are : found ≡ filter (is_discontiguous v) (map (λ g. g.block) (groups v))) (table : IsInodeTable v rows) where
    no_group : first_of (rising found) ≡ None → first_of of_groups ≡ None
    no_group none = groups_first found are ∙ ap (option_map (λ n. (DiscontiguousGroup, n))) none

    pub group_first : (b : ℕ) → first_of (rising found) ≡ Some b → Some (DiscontiguousGroup, b) ≡ unsupported_structure v
    unfolding unsupported_structure
    group_first b is =
        sym
        (first_here (of_groups ++ with_attributes) _ (DiscontiguousGroup, b)
        (first_here of_groups with_attributes (DiscontiguousGroup, b) (groups_first found are ∙ ap (option_map (λ n. (DiscontiguousGroup, n))) is)))

    pub attributes_first : (b : ℕ) → first_of (rising found) ≡ None → first_of (inodes_with_attributes v) ≡ Some b → Some (Attributes, b) ≡ unsupported_structure v
    unfolding unsupported_structure
    attributes_first b none is =
        sym
        (first_here (of_groups ++ with_attributes) _ (Attributes, b)
        (first_behind of_groups with_attributes (no_group none) ∙ (first_each Attributes (inodes_with_attributes v) ∙ ap (option_map (λ n. (Attributes, n))) is)))

    pub orphan_or_none : first_of (rising found) ≡ None → first_of (inodes_with_attributes v) ≡ None → option_map (λ b. (DioOrphan, b)) (first_marked rows) ≡ unsupported_structure v
    unfolding unsupported_structure
    orphan_or_none none without =
        sym
        (first_behind (of_groups ++ with_attributes) _ (first_behind of_groups with_attributes (no_group none) ∙ (first_each Attributes (inodes_with_attributes v) ∙ ap (option_map (λ n. (Attributes, n))) without))
        ∙ orphans_first rows table)
