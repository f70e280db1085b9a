-- The leaves among the extent blocks of a list.
use Rattle.std.specs.Prelude.{ℕ, Bool, ◌==◌, List, [], ◌∷◌, ◌++◌, filter, fold}
use Rattle.o2_model.specs.Faults.{fails_unless}
use Rattle.o2_extent.specs.declared.list_block.ListBlock.{ListBlock}

-- the block is a leaf
abbrev pub is_leaf : ListBlock → Bool
is_leaf row = row.depth == 0

abbrev pub leaf_rows : List ListBlock → List ListBlock
leaf_rows rows = filter is_leaf rows

-- the block of the first of these leaves, 0 where there is none
abbrev pub next_of : List ListBlock → ℕ
next_of [] = 0
next_of (leaf ∷ leaves) = leaf.block

-- where a leaf does not name the one behind it
abbrev pub faults_of_leaves : List ListBlock → List ℕ
faults_of_leaves [] = []
faults_of_leaves (leaf ∷ behind) = fails_unless leaf.block (leaf.fields.next_leaf_blk == next_of behind) ++ faults_of_leaves behind

-- the block of the last of these leaves, 0 where there is none
abbrev pub last_of : List ListBlock → ℕ
last_of leaves = fold (λ _ leaf. leaf.block) 0 leaves
