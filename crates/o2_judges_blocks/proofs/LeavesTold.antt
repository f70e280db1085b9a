-- What the leaves of a list tell of the volume.
use Rattle.std.proofs.Common.{◌≡◌, ℕ, Bool, true, false, ◌==◌, List, [], ◌∷◌, ◌++◌, map, filter, fold, take, drop, ◌-◌, subst, get_or, length, ◌<◌, ◌+◌, cond, refl, sym, ◌∙◌, ap}
use Rattle.std.specs.List.{AllByRecursion}
use Rattle.std.proofs.lemmas.List.{append-nil, drop_more, take_rest}
use Rattle.o2_ondisk.specs.declared.extent_block.ExtentBlock.{ExtentBlock}
use Rattle.o2_model.specs.Faults.{fails_unless}
use Rattle.o2_model.specs.Volume.{Volume}
use Rattle.o2_model.specs.Extents.{Extents, extent_block, list_in_block}
use Rattle.o2_model.specs.Checks.EbNext.{leaf_blocks, next_faults}
use Rattle.o2_model.specs.Checks.LastEb.{last_leaf}
use Rattle.o2_extent.specs.Readings.{IsListBlock, AreListBlocks}
use Rattle.o2_extent.specs.declared.list_block.ListBlock.{ListBlock}
use Rattle.o2_judges_blocks.specs.LeafRows.{is_leaf, leaf_rows, faults_of_leaves, last_of}

-- ---- which blocks are leaves
abbrev is_leaf_block : Volume → ℕ → Bool
is_leaf_block v b = (list_in_block v b).header.tree_depth == 0

depth_told : (v : Volume) (r : ListBlock) (leaf : Bool) → IsListBlock v r → is_leaf r ≡ leaf → is_leaf_block v r.block ≡ leaf
depth_told v r leaf is here = ap (λ n. n == 0) (sym is.depth) ∙ here

one_more : (v : Volume) (r : ListBlock) (rs : List ListBlock) (leaf : Bool) → is_leaf r ≡ leaf → is_leaf_block v r.block ≡ leaf
    → map (λ x. x.block) (leaf_rows rs) ≡ filter (is_leaf_block v) (map (λ x. x.block) rs)
    → map (λ x. x.block) (leaf_rows (r ∷ rs)) ≡ filter (is_leaf_block v) (map (λ x. x.block) (r ∷ rs))
one_more v r rs true here there rest = rw (here, there) (ap (λ bs. r.block ∷ bs) rest)
one_more v r rs false here there rest = rw (here, there) rest

leaves_are : (v : Volume) (rows : List ListBlock) → AllByRecursion (IsListBlock v) rows → map (λ r. r.block) (leaf_rows rows) ≡ filter (is_leaf_block v) (map (λ r. r.block) rows)
leaves_are v [] each = refl
leaves_are v (r ∷ rs) each = one_more v r rs (is_leaf r) refl (depth_told v r (is_leaf r) each.0 refl) (leaves_are v rs each.1)

one_told : (v : Volume) (r : ListBlock) (rs : List ListBlock) (leaf : Bool) → is_leaf r ≡ leaf → IsListBlock v r → AllByRecursion (IsListBlock v) (leaf_rows rs) → AllByRecursion (IsListBlock v) (leaf_rows (r ∷ rs))
one_told v r rs true here is rest = rw here (is, rest)
one_told v r rs false here is rest = rw here rest

leaves_tell : (v : Volume) (rows : List ListBlock) → AllByRecursion (IsListBlock v) rows → AllByRecursion (IsListBlock v) (leaf_rows rows)
leaves_tell v [] each = each
leaves_tell v (r ∷ rs) each = one_told v r rs (is_leaf r) refl each.0 (leaves_tell v rs each.1)

leaf_blocks_are : (v : Volume) (t : Extents) (rows : List ListBlock) → AreListBlocks v t.blocks rows → map (λ r. r.block) (leaf_rows rows) ≡ leaf_blocks v t
unfolding leaf_blocks
leaf_blocks_are v t rows are = leaves_are v rows are.each ∙ ap (filter (is_leaf_block v)) are.listed

-- ---- EB_NEXT
names : (v : Volume) (r : ListBlock) (next : ℕ) → IsListBlock v r → fails_unless r.block (r.fields.next_leaf_blk == next) ≡ fails_unless r.block ((extent_block v r.block).next_leaf_blk == next)
names v r next is = ap (λ (fields : ExtentBlock). fails_unless r.block (fields.next_leaf_blk == next)) is.fields

faults_are : (v : Volume) (leaves : List ListBlock) → AllByRecursion (IsListBlock v) leaves → faults_of_leaves leaves ≡ next_faults v (map (λ r. r.block) leaves)
faults_are v [] each = refl
faults_are v (r ∷ []) each = append-nil (fails_unless r.block (r.fields.next_leaf_blk == 0)) ∙ names v r 0 each.0
faults_are v (r ∷ s ∷ rest) each = ap (λ bs. bs ++ faults_of_leaves (s ∷ rest)) (names v r s.block each.0) ∙ ap (λ bs. fails_unless r.block ((extent_block v r.block).next_leaf_blk == s.block) ++ bs) (faults_are v (s ∷ rest) each.1)

pub next_told : (v : Volume) (t : Extents) (rows : List ListBlock) → AreListBlocks v t.blocks rows → faults_of_leaves (leaf_rows rows) ≡ next_faults v (leaf_blocks v t)
next_told v t rows are = faults_are v (leaf_rows rows) (leaves_tell v rows are.each) ∙ ap (next_faults v) (leaf_blocks_are v t rows are)

-- a leaf was judged, where these are behind it
pub leaf_judged : (leaves : List ListBlock) (k : ℕ) (d : ListBlock) (before after whole : List ℕ) → k < length leaves
    → after ++ faults_of_leaves (take (length leaves - (k + 1)) (drop (k + 1) leaves)) ≡ before ++ faults_of_leaves (get_or leaves k d ∷ take (length leaves - (k + 1)) (drop (k + 1) leaves))
    → before ++ faults_of_leaves (drop k leaves) ≡ whole → after ++ faults_of_leaves (drop (k + 1) leaves) ≡ whole
leaf_judged leaves k d before after whole inside judged all =
    let rest = take_rest leaves (k + 1) in
    let here : after ++ faults_of_leaves (drop (k + 1) leaves) ≡ before ++ faults_of_leaves (get_or leaves k d ∷ drop (k + 1) leaves) =
    subst (λ (xs : List ListBlock). after ++ faults_of_leaves xs ≡ before ++ faults_of_leaves (get_or leaves k d ∷ xs)) rest judged
    in
    here ∙ (ap (λ (xs : List ListBlock). before ++ faults_of_leaves xs) (sym (drop_more leaves k d inside)) ∙ all)

-- ---- LAST_EB
last_from : (rows : List ListBlock) (last : ℕ) → fold (λ _ r. r.block) last rows ≡ fold (λ _ b. b) last (map (λ r. r.block) rows)
last_from [] last = refl
last_from (r ∷ rs) last = last_from rs r.block

pub last_told : (v : Volume) (t : Extents) (rows : List ListBlock) → AreListBlocks v t.blocks rows → last_of (leaf_rows rows) ≡ last_leaf v t
last_told v t rows are = last_from (leaf_rows rows) 0 ∙ ap (λ bs. fold (λ _ b. b) 0 bs) (leaf_blocks_are v t rows are)

-- the last of the rows from one on, where this was the last before
pub last_more : (rows : List ListBlock) (i last : ℕ) (d : ListBlock) → i < length rows
    → fold (λ _ r. r.block) last (leaf_rows (drop i rows)) ≡ fold (λ _ r. r.block) (cond (is_leaf (get_or rows i d)) (get_or rows i d).block last) (leaf_rows (drop (i + 1) rows))
last_more rows i last d inside = ap (λ rs. fold (λ _ r. r.block) last (leaf_rows rs)) (drop_more rows i d inside) ∙ by_depth (is_leaf (get_or rows i d)) refl
  where
    here : ListBlock
    here = get_or rows i d

    by_depth : (leaf : Bool) → is_leaf here ≡ leaf → fold (λ _ r. r.block) last (leaf_rows (here ∷ drop (i + 1) rows)) ≡ fold (λ _ r. r.block) (cond (is_leaf here) here.block last) (leaf_rows (drop (i + 1) rows))
    by_depth true is = rw is refl
    by_depth false is = rw is refl
