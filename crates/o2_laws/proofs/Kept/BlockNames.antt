-- The list of leaves of a refcount tree: blocks that agree on those that its reading looks at give the same, and where nothing is
-- wrong it looks at its extent blocks.
use Rattle.std.proofs.Common.{◌≡◌, inl, inr, ℕ, ◌==◌, List, [], ◌∷◌, refl}
use Rattle.std.proofs.lemmas.Bool.{cases_Bool, or_left, or_right, eq-eqb}
use Rattle.o2_model.specs.Volume.{Volume, over}
use Rattle.o2_model.specs.Extents.LeafRule.{ToBlocks}
use Rattle.o2_model.specs.RefcountTrees.{is_refcount_block, has_leaf_blocks, most_in_refcount_block, leaf_list}
use Rattle.o2_laws.specs.Frames.{SameOn}
use Rattle.o2_laws.proofs.Readings.{list_same, same_on_before}
use Rattle.o2_laws.proofs.WellRead.{list_well}

pub refcount_block_same : (v : Volume) (at : ℕ → List ℕ) (b : ℕ) → at b ≡ v.at b → is_refcount_block (over v at) b ≡ is_refcount_block v b
unfolding is_refcount_block
refcount_block_same v at b same = rw same refl

pub has_leaf_blocks_same : (v : Volume) (at : ℕ → List ℕ) (b : ℕ) → at b ≡ v.at b → has_leaf_blocks (over v at) b ≡ has_leaf_blocks v b
has_leaf_blocks_same v at b same = rw (refcount_block_same v at b same, same) refl

pub leaf_list_same : (v : Volume) (at : ℕ → List ℕ) (root : ℕ) → SameOn (root ∷ (leaf_list v root).seen) v at → (leaf_list v root).faults ≡ [] → leaf_list (over v at) root ≡ leaf_list v root
unfolding leaf_list
leaf_list_same v at root same none =
    let here : at root ≡ v.at root = same.same root (or_left _ _ (eq-eqb root root refl)) in
    elim (cases_Bool (has_leaf_blocks v root)) [
      | inr none_here ↦ rw (has_leaf_blocks_same v at root here, none_here) refl
      | inl has ↦
          rw (has_leaf_blocks_same v at root here, has)
          (list_same v at ToBlocks root 0x80 (most_in_refcount_block v) here (same_on_before (λ c h. or_right _ _ h) (rw has at same)) (rw has at none))
    ]

pub leaf_list_sees_blocks : (v : Volume) (root : ℕ) → (leaf_list v root).faults ≡ [] → (leaf_list v root).seen ≡ (leaf_list v root).blocks
unfolding leaf_list
leaf_list_sees_blocks v root none =
    elim (cases_Bool (has_leaf_blocks v root)) [
      | inr none_here ↦ rw none_here refl
      | inl has ↦ rw has ((list_well v ToBlocks root 0x80 (most_in_refcount_block v)).seen (rw has at none))
    ]
