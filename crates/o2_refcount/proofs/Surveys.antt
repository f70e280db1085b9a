-- What was read of all trees, and the roots that inodes name.
use Rattle.std.proofs.Common.{◌≡◌, inl, inr, ℕ, Bool, true, false, List, [], ◌∷◌, ◌++◌, map, filter, refl, ◌∙◌, ap, subst, Some, None}
use Rattle.std.specs.Prelude.{flat_map, if◌then◌else◌}
use Rattle.std.specs.List.{AllByRecursion}
use Rattle.std.specs.Option.{option_map_or}
use Rattle.std.proofs.lemmas.Bool.{cases_Bool}
use Rattle.std.proofs.lemmas.List.Concat.{flat_map-cons}
use Rattle.o2_model.specs.Faults.{fails_at, fails_unless}
use Rattle.o2_model.specs.Orders.{rising}
use Rattle.o2_model.specs.RefcountTrees.{has_refcount, has_leaf_blocks, refcount_roots}
use Rattle.o2_model.specs.Volume.{Volume, dinode}
use Rattle.o2_tables.specs.Rows.{IsInodeRow, IsInodeTable, tree_named}
use Rattle.o2_tables.specs.declared.inodes.InodeRow.{InodeRow}
use Rattle.o2_refcount.specs.NamedRoots.{named_by}
use Rattle.o2_refcount.specs.TreeReadings.{AreTreesRead, IsTreeSurvey, names_last_leaf}
use Rattle.o2_refcount.specs.declared.trees.TreeSurvey.{TreeSurvey}

-- ---- all trees
-- those of the items that are asked
those_asked : (asked holds : ℕ → Bool) (bs : List ℕ) → flat_map (λ b. if asked b then fails_unless b (holds b) else []) bs ≡ fails_at (λ b. b) holds (filter asked bs)
those_asked asked holds [] = refl
those_asked asked holds (b ∷ bs) = flat_map-cons (λ n. if asked n then fails_unless n (holds n) else []) b bs ∙ elim (cases_Bool (asked b)) [
  | inr other ↦ rw other (those_asked asked holds bs)
  | inl is ↦ elim (cases_Bool (holds b)) [
    | inl good ↦ rw (is, good) (those_asked asked holds bs)
    | inr bad ↦ rw (is, bad) (ap (λ ns. b ∷ ns) (those_asked asked holds bs))
  ]
]

pub survey_told : (v : Volume) (roots : List ℕ) (survey : TreeSurvey) → roots ≡ refcount_roots v → AreTreesRead v roots survey → IsTreeSurvey v survey
survey_told v roots survey are read =
    let all = subst (λ rs. AreTreesRead v rs survey) are read in
    record {
      table = record { roots = all.listed; each = all.each };
      faults = all.faults;
      next = all.next;
      last = all.last ∙ those_asked (has_leaf_blocks v) (names_last_leaf v) (refcount_roots v);
    }

-- ---- roots
one_named : (v : Volume) (r : InodeRow) (has : Bool) → has_refcount v r.block ≡ has → r.named_tree ≡ tree_named v r.block → named_by r ≡ (if has then (dinode v r.block).refcount_loc ∷ [] else [])
one_named v r true is named = ap (λ o. option_map_or (λ root. root ∷ []) o []) (named ∙ ap (λ (b : Bool). if b then Some (dinode v r.block).refcount_loc else None) is)
one_named v r false is named = ap (λ o. option_map_or (λ root. root ∷ []) o []) (named ∙ ap (λ (b : Bool). if b then Some (dinode v r.block).refcount_loc else None) is)

all_named : (v : Volume) (rows : List InodeRow) → AllByRecursion (IsInodeRow v) rows
    → flat_map named_by rows ≡ map (λ b. (dinode v b).refcount_loc) (filter (has_refcount v) (map (λ r. r.block) rows))
all_named v [] all = refl
all_named v (r ∷ rs) all = flat_map-cons named_by r rs ∙ elim (cases_Bool (has_refcount v r.block)) [
  | inl is ↦ ap (λ ns. ns ++ flat_map named_by rs) (one_named v r true is all.0.named) ∙ rw is (ap (λ ns. (dinode v r.block).refcount_loc ∷ ns) (all_named v rs all.1))
  | inr other ↦ ap (λ ns. ns ++ flat_map named_by rs) (one_named v r false other all.0.named) ∙ rw other (all_named v rs all.1)
]

pub roots_told : (v : Volume) (rows : List InodeRow) (named : List ℕ) → named ≡ flat_map named_by rows → IsInodeTable v rows → rising named ≡ refcount_roots v
unfolding refcount_roots
roots_told v rows named is table =
    ap rising (is ∙ (all_named v rows table.each ∙ ap (λ bs. map (λ b. (dinode v b).refcount_loc) (filter (has_refcount v) bs)) table.inodes))
