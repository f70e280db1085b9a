-- Where nothing fails, the checks of extent blocks are the same over blocks that agree on the held ones.
use Rattle.std.proofs.Common.{◌≡◌, inl, inr, ℕ, Bool, true, ◌&&◌, ◌==◌, List, [], ◌++◌, map, refl, ◌∙◌, ap}
use Rattle.std.specs.Prelude.{filter, flat_map}
use Rattle.std.specs.List.{Contains}
use Rattle.std.proofs.lemmas.List.Elements.{Contains-append_cases}
use Rattle.o2_model.specs.declared.check.Check.TheVariants as check
use Rattle.o2_model.specs.Faults.{fails_at}
use Rattle.o2_model.specs.Volume.{Volume, over}
use Rattle.o2_model.specs.Allocators.{are_metadata}
use Rattle.o2_model.specs.RefcountTrees.{refcount_roots, is_refcount_block, refcount_leaves, leaf_list}
use Rattle.o2_model.specs.Metadata.{extent_block_origin, refcount_block_origin, has_origin, is_on_metadata_bit, list_blocks, metadata_blocks}
use Rattle.o2_model.specs.Files.{times_in}
use Rattle.o2_model.specs.Checks.MetaBlock.{is_sound_metadata_block, meta_block_faults}
use Rattle.o2_model.specs.Checks.MetaSuballoc.{extent_blocks, roots_and_leaves, meta_suballoc_faults}
use Rattle.o2_model.specs.Failing.{faults, failing}
use Rattle.o2_laws.proofs.Held.HeldBlocks.{is_held}
use Rattle.o2_laws.proofs.Held.HeldBlocks.{AgreesOnHeld}
use Rattle.o2_laws.proofs.Members.{contains_filter, flat_contains}
use Rattle.o2_laws.proofs.Agreeing.{flat_map_agree, filter_agree_on, fails_agree}
use Rattle.o2_laws.proofs.Kept.BlockNames.{refcount_block_same}
use Rattle.o2_laws.proofs.Kept.RootsKeep.{held_tell_roots}
use Rattle.o2_laws.proofs.Kept.RefcountsKeep.{root_held, list_block_held, leaf_held, held_tell_leaf_list}
use Rattle.o2_laws.proofs.Kept.MetadataKeeps.{held_tell_list_blocks, held_tell_metadata, held_tell_metadata_bit, held_tell_origin, listed_block_held}

-- ---- META_BLOCK
sound_block_same : (v : Volume) (at : ℕ → List ℕ) (b : ℕ) → failing v ≡ [] → AgreesOnHeld v at → is_sound_metadata_block (over v at) b ≡ is_sound_metadata_block v b
unfolding is_sound_metadata_block
sound_block_same v at b none agrees =
    ap (λ on. on && times_in (metadata_blocks (over v at)) b == 1) (held_tell_metadata_bit v at b none agrees)
    ∙ ap (λ bs. is_on_metadata_bit v b && times_in bs b == 1) (held_tell_metadata v at none agrees)

meta_block_same : (v : Volume) (at : ℕ → List ℕ) → failing v ≡ [] → AgreesOnHeld v at → meta_block_faults (over v at) ≡ meta_block_faults v
meta_block_same v at none agrees =
    ap (fails_at (λ b. b) (is_sound_metadata_block (over v at))) (held_tell_metadata v at none agrees)
    ∙ fails_agree (λ b. b) (is_sound_metadata_block (over v at)) (is_sound_metadata_block v) (metadata_blocks v) (λ b is. sound_block_same v at b none agrees)

pub keeps_meta_block : (v : Volume) (at : ℕ → List ℕ) → failing v ≡ [] → AgreesOnHeld v at → faults (over v at) check.MetaBlock ≡ faults v check.MetaBlock
unfolding faults
keeps_meta_block v at none agrees = meta_block_same v at none agrees

-- ---- META_SUBALLOC, of extent blocks
-- what one tree adds to them
abbrev tree_extent_blocks : Volume → ℕ → List ℕ
tree_extent_blocks v root = (leaf_list v root).blocks

tree_extent_blocks_same : (v : Volume) (at : ℕ → List ℕ) → failing v ≡ [] → AgreesOnHeld v at
    → flat_map (tree_extent_blocks (over v at)) (refcount_roots (over v at)) ≡ flat_map (tree_extent_blocks v) (refcount_roots v)
tree_extent_blocks_same v at none agrees =
    ap (flat_map (tree_extent_blocks (over v at))) (held_tell_roots v at none agrees)
    ∙ flat_map_agree (tree_extent_blocks (over v at)) (tree_extent_blocks v) (refcount_roots v) (λ root is. ap (λ t. t.blocks) (held_tell_leaf_list v at root none agrees is))

extent_blocks_same : (v : Volume) (at : ℕ → List ℕ) → failing v ≡ [] → AgreesOnHeld v at → extent_blocks (over v at) ≡ extent_blocks v
extent_blocks_same v at none agrees =
    ap (λ bs. bs ++ flat_map (tree_extent_blocks (over v at)) (refcount_roots (over v at))) (held_tell_list_blocks v at none agrees)
    ∙ ap (λ bs. list_blocks v ++ bs) (tree_extent_blocks_same v at none agrees)

extent_block_held : (v : Volume) (b : ℕ) → failing v ≡ [] → Contains (extent_blocks v) b → is_held v b ≡ true
extent_block_held v b none is = elim (Contains-append_cases (list_blocks v) (flat_map (tree_extent_blocks v) (refcount_roots v)) b is) [
  | inl listed ↦ listed_block_held v b none listed
  | inr of_tree ↦
      let root = flat_contains (tree_extent_blocks v) (refcount_roots v) b of_tree in
      list_block_held v root.item b none root.inside root.has
]

-- the extent block tells where it is from
abbrev tells_origin : Volume → ℕ → Bool
tells_origin v b = has_origin v are_metadata (extent_block_origin v b) b

tells_origin_same : (v : Volume) (at : ℕ → List ℕ) (b : ℕ) → failing v ≡ [] → AgreesOnHeld v at → at b ≡ v.at b → tells_origin (over v at) b ≡ tells_origin v b
tells_origin_same v at b none agrees same =
    held_tell_origin v at are_metadata (extent_block_origin (over v at) b) b none agrees ∙ rw same refl

-- ---- META_SUBALLOC, of refcount blocks
roots_and_leaves_same : (v : Volume) (at : ℕ → List ℕ) → failing v ≡ [] → AgreesOnHeld v at → roots_and_leaves (over v at) ≡ roots_and_leaves v
roots_and_leaves_same v at none agrees =
    ap (λ roots. roots ++ flat_map (refcount_leaves (over v at)) roots) (held_tell_roots v at none agrees)
    ∙ ap (λ bs. refcount_roots v ++ bs) (flat_map_agree (refcount_leaves (over v at)) (refcount_leaves v) (refcount_roots v)
    (λ root is. ap (λ t. map (λ leaf. leaf.block) t.leaves) (held_tell_leaf_list v at root none agrees is)))

root_or_leaf_held : (v : Volume) (b : ℕ) → failing v ≡ [] → Contains (roots_and_leaves v) b → is_held v b ≡ true
root_or_leaf_held v b none is = elim (Contains-append_cases (refcount_roots v) (flat_map (refcount_leaves v) (refcount_roots v)) b is) [
  | inl root ↦ root_held v b none root
  | inr leaf ↦
      let root = flat_contains (refcount_leaves v) (refcount_roots v) b leaf in
      leaf_held v root.item b none root.inside root.has
]

-- those that are refcount blocks
abbrev good_blocks : Volume → List ℕ
good_blocks v = filter (is_refcount_block v) (roots_and_leaves v)

good_blocks_same : (v : Volume) (at : ℕ → List ℕ) → failing v ≡ [] → AgreesOnHeld v at → good_blocks (over v at) ≡ good_blocks v
good_blocks_same v at none agrees =
    ap (filter (is_refcount_block (over v at))) (roots_and_leaves_same v at none agrees)
    ∙ filter_agree_on (is_refcount_block (over v at)) (is_refcount_block v) (roots_and_leaves v) (λ b is. refcount_block_same v at b (agrees.same b (root_or_leaf_held v b none is)))

-- the refcount block tells where it is from
abbrev tells_tree_origin : Volume → ℕ → Bool
tells_tree_origin v b = has_origin v are_metadata (refcount_block_origin v b) b

tells_tree_origin_same : (v : Volume) (at : ℕ → List ℕ) (b : ℕ) → failing v ≡ [] → AgreesOnHeld v at → at b ≡ v.at b → tells_tree_origin (over v at) b ≡ tells_tree_origin v b
tells_tree_origin_same v at b none agrees same =
    held_tell_origin v at are_metadata (refcount_block_origin (over v at) b) b none agrees ∙ rw same refl

extent_origins_same : (v : Volume) (at : ℕ → List ℕ) → failing v ≡ [] → AgreesOnHeld v at
    → fails_at (λ b. b) (tells_origin (over v at)) (extent_blocks (over v at)) ≡ fails_at (λ b. b) (tells_origin v) (extent_blocks v)
extent_origins_same v at none agrees =
    ap (fails_at (λ b. b) (tells_origin (over v at))) (extent_blocks_same v at none agrees)
    ∙ fails_agree (λ b. b) (tells_origin (over v at)) (tells_origin v) (extent_blocks v)
    (λ b is. tells_origin_same v at b none agrees (agrees.same b (extent_block_held v b none is)))

tree_origins_same : (v : Volume) (at : ℕ → List ℕ) → failing v ≡ [] → AgreesOnHeld v at
    → fails_at (λ b. b) (tells_tree_origin (over v at)) (good_blocks (over v at)) ≡ fails_at (λ b. b) (tells_tree_origin v) (good_blocks v)
tree_origins_same v at none agrees =
    ap (fails_at (λ b. b) (tells_tree_origin (over v at))) (good_blocks_same v at none agrees)
    ∙ fails_agree (λ b. b) (tells_tree_origin (over v at)) (tells_tree_origin v) (good_blocks v)
    (λ b is. tells_tree_origin_same v at b none agrees (agrees.same b (root_or_leaf_held v b none (contains_filter (is_refcount_block v) (roots_and_leaves v) b is).0)))

meta_suballoc_same : (v : Volume) (at : ℕ → List ℕ) → failing v ≡ [] → AgreesOnHeld v at → meta_suballoc_faults (over v at) ≡ meta_suballoc_faults v
meta_suballoc_same v at none agrees =
    ap (λ bs. bs ++ fails_at (λ b. b) (tells_tree_origin (over v at)) (good_blocks (over v at))) (extent_origins_same v at none agrees)
    ∙ ap (λ bs. fails_at (λ b. b) (tells_origin v) (extent_blocks v) ++ bs) (tree_origins_same v at none agrees)

pub keeps_meta_suballoc : (v : Volume) (at : ℕ → List ℕ) → failing v ≡ [] → AgreesOnHeld v at → faults (over v at) check.MetaSuballoc ≡ faults v check.MetaSuballoc
unfolding faults
keeps_meta_suballoc v at none agrees = meta_suballoc_same v at none agrees
