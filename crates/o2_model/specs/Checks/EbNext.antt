-- EB_NEXT, number 17, at the extent block: h_next_leaf_blk of a leaf is the next leaf of its tree, or 0 in the last one.
use Rattle.std.specs.Prelude.{ℕ, ◌==◌, List, [], ◌∷◌, ◌++◌, filter, flat_map}
use Rattle.o2_model.specs.Faults.{fails_unless}
use Rattle.o2_model.specs.Volume.{Volume}
use Rattle.o2_model.specs.Extents.{Extents, extent_block, list_in_block}
use Rattle.o2_model.specs.Inodes.{extent_lists_of}
use Rattle.o2_model.specs.Groups.{inodes_of}
use Rattle.o2_model.specs.RefcountTrees.{refcount_roots, leaf_list}

-- the leaf blocks of a tree, in order
unfoldable pub leaf_blocks : Volume → Extents → List ℕ
leaf_blocks v t = filter (λ b. (list_in_block v b).header.tree_depth == 0) t.blocks

-- where a leaf does not name the one behind it
abbrev pub next_faults : Volume → List ℕ → List ℕ
next_faults v [] = []
next_faults v (b ∷ []) = fails_unless b ((extent_block v b).next_leaf_blk == 0)
next_faults v (b ∷ c ∷ rest) = fails_unless b ((extent_block v b).next_leaf_blk == c) ++ next_faults v (c ∷ rest)

-- the lists of inodes and of refcount trees
abbrev pub all_lists : Volume → List Extents
all_lists v = flat_map (extent_lists_of v) (inodes_of v) ++ flat_map (λ root. leaf_list v root ∷ []) (refcount_roots v)

abbrev pub eb_next_faults : Volume → List ℕ
eb_next_faults v = flat_map (λ t. next_faults v (leaf_blocks v t)) (all_lists v)
