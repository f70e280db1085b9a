-- Where nothing fails, the blocks of refcount trees are held, and blocks that agree on the held ones have the same trees.
use Rattle.std.proofs.Common.{◌≡◌, inl, inr, ⊎_elim, ℕ, true, ◌==◌, List, [], ◌∷◌, ◌++◌, map, refl, sym, ◌∙◌, ap, subst}
use Rattle.std.specs.Prelude.{fold, flat_map}
use Rattle.std.specs.List.{Contains}
use Rattle.std.proofs.lemmas.Bool.{cases_Bool, and_parts, or_cases, eqb-true}
use Rattle.std.proofs.lemmas.List.Elements.{Contains-append_left, Contains-append_right}
use Rattle.o2_ondisk.specs.declared.refcount_rec.RefcountRec.{RefcountRec}
use Rattle.o2_model.specs.declared.check.Check.TheVariants as check
use Rattle.o2_model.specs.Words.{among}
use Rattle.o2_model.specs.Faults.{fails_unless}
use Rattle.o2_model.specs.Orders.{is_none_of}
use Rattle.o2_model.specs.Volume.{Volume, over}
use Rattle.o2_model.specs.Metadata.{list_blocks, refcount_blocks, metadata_blocks}
use Rattle.o2_model.specs.RefcountTrees.{Refcounts, refcount_roots, is_refcount_block, has_leaf_blocks, leaf_list, refcount_leaves, refcount_tree_blocks, refcount_records, refcount_end, is_sound_refcount, read_refcounts, read_refcount_block, record_blocks, refcounts}
use Rattle.o2_model.specs.Checks.RefTree.{is_sound_root_block, ref_tree_faults_of, ref_tree_faults}
use Rattle.o2_model.specs.Failing.{faults, failing}
use Rattle.o2_laws.proofs.Held.HeldBlocks.{is_held}
use Rattle.o2_laws.proofs.Held.HeldBlocks.{AgreesOnHeld}
use Rattle.o2_laws.proofs.NothingFails.{no_check_fails}
use Rattle.o2_laws.proofs.Found.{append_nothing, each_of, contains_first, contains_later, none_of}
use Rattle.o2_laws.proofs.Members.{contains_one, contains_flat, contains_among, among_contains}
use Rattle.o2_laws.proofs.Agreeing.{fold_agree}
use Rattle.o2_laws.proofs.Held.BitsHeld.{metadata_held}
use Rattle.o2_laws.proofs.Held.HeldTells.{each_nothing, metadata_holds}
use Rattle.o2_laws.proofs.Kept.BlockNames.{refcount_block_same, has_leaf_blocks_same, leaf_list_same, leaf_list_sees_blocks}
use Rattle.o2_model.proofs.Faults.{holds_unless}

-- ---- a tree without fault
trees_hold : (v : Volume) → failing v ≡ [] → ref_tree_faults v ≡ []
unfolding faults
trees_hold v none = no_check_fails v none check.RefTree

tree_holds : (v : Volume) (root : ℕ) → failing v ≡ [] → Contains (refcount_roots v) root → ref_tree_faults_of v root ≡ []
tree_holds v root none is =
    let parts = append_nothing _ (flat_map (ref_tree_faults_of v) (refcount_roots v)) (trees_hold v none) in
    each_of (λ r. ref_tree_faults_of v r ≡ []) (refcount_roots v) root (each_nothing (ref_tree_faults_of v) (refcount_roots v) parts.1) is

sound_root : (v : Volume) (root : ℕ) → failing v ≡ [] → Contains (refcount_roots v) root → is_sound_root_block v root ≡ true
sound_root v root none is =
    holds_unless root (is_sound_root_block v root) (append_nothing (fails_unless root (is_sound_root_block v root)) (refcounts v root).faults (tree_holds v root none is)).0

pub no_leaf_list_fault : (v : Volume) (root : ℕ) → failing v ≡ [] → Contains (refcount_roots v) root → (leaf_list v root).faults ≡ []
no_leaf_list_fault v root none is =
    none_of (leaf_list v root).faults (and_parts (is_refcount_block v root) (is_none_of (leaf_list v root).faults) (sound_root v root none is)).1

-- ---- its blocks are held
pub tree_block_listed : (v : Volume) (root b : ℕ) → Contains (refcount_roots v) root → Contains (refcount_tree_blocks v root) b → Contains (metadata_blocks v) b
unfolding metadata_blocks refcount_blocks
tree_block_listed v root b is inside =
    Contains-append_right (list_blocks v) (refcount_blocks v) b (contains_flat (refcount_tree_blocks v) (refcount_roots v) root b is inside)

pub tree_block_held : (v : Volume) (root b : ℕ) → failing v ≡ [] → Contains (refcount_roots v) root → Contains (refcount_tree_blocks v root) b → is_held v b ≡ true
tree_block_held v root b none is inside =
    metadata_held v b (metadata_holds v none) (contains_among (metadata_blocks v) b (tree_block_listed v root b is inside))

root_of_tree : (v : Volume) (root : ℕ) → Contains (refcount_tree_blocks v root) root
unfolding refcount_tree_blocks
root_of_tree v root = contains_first root _

extent_block_of_tree : (v : Volume) (root b : ℕ) → Contains (leaf_list v root).blocks b → Contains (refcount_tree_blocks v root) b
unfolding refcount_tree_blocks
extent_block_of_tree v root b is = contains_later root b _ (Contains-append_left (leaf_list v root).blocks (refcount_leaves v root) b is)

leaf_of_tree : (v : Volume) (root b : ℕ) → Contains (refcount_leaves v root) b → Contains (refcount_tree_blocks v root) b
unfolding refcount_tree_blocks
leaf_of_tree v root b is = contains_later root b _ (Contains-append_right (leaf_list v root).blocks (refcount_leaves v root) b is)

pub root_held : (v : Volume) (root : ℕ) → failing v ≡ [] → Contains (refcount_roots v) root → is_held v root ≡ true
root_held v root none is = tree_block_held v root root none is (root_of_tree v root)

pub list_block_held : (v : Volume) (root b : ℕ) → failing v ≡ [] → Contains (refcount_roots v) root → Contains (leaf_list v root).blocks b → is_held v b ≡ true
list_block_held v root b none is inside = tree_block_held v root b none is (extent_block_of_tree v root b inside)

pub leaf_held : (v : Volume) (root b : ℕ) → failing v ≡ [] → Contains (refcount_roots v) root → Contains (refcount_leaves v root) b → is_held v b ≡ true
leaf_held v root b none is inside = tree_block_held v root b none is (leaf_of_tree v root b inside)

looked_at_held : (v : Volume) (root b : ℕ) → failing v ≡ [] → Contains (refcount_roots v) root → among (leaf_list v root).seen b ≡ true → is_held v b ≡ true
looked_at_held v root b none is h =
    list_block_held v root b none is
    (subst (λ bs. Contains bs b) (leaf_list_sees_blocks v root (no_leaf_list_fault v root none is)) (among_contains (leaf_list v root).seen b h))

-- ---- the list of leaves
pub root_same : (v : Volume) (at : ℕ → List ℕ) (root : ℕ) → failing v ≡ [] → AgreesOnHeld v at → Contains (refcount_roots v) root → at root ≡ v.at root
root_same v at root none agrees is = agrees.same root (root_held v root none is)

pub held_tell_leaf_list : (v : Volume) (at : ℕ → List ℕ) (root : ℕ) → failing v ≡ [] → AgreesOnHeld v at → Contains (refcount_roots v) root → leaf_list (over v at) root ≡ leaf_list v root
held_tell_leaf_list v at root none agrees is =
    leaf_list_same v at root (record {
      same = λ b h. ⊎_elim
          (λ here. subst (λ x. at x ≡ v.at x) (sym (eqb-true b root here)) (root_same v at root none agrees is))
          (λ there. agrees.same b (looked_at_held v root b none is there))
          (or_cases (b == root) (among (leaf_list v root).seen b) h);
    }) (no_leaf_list_fault v root none is)

pub held_tell_tree_blocks : (v : Volume) (at : ℕ → List ℕ) (root : ℕ) → failing v ≡ [] → AgreesOnHeld v at → Contains (refcount_roots v) root
    → refcount_tree_blocks (over v at) root ≡ refcount_tree_blocks v root
unfolding refcount_tree_blocks
held_tell_tree_blocks v at root none agrees is =
    ap (λ t. root ∷ t.blocks ++ map (λ leaf. leaf.block) t.leaves) (held_tell_leaf_list v at root none agrees is)

-- ---- records
sound_refcount_same : (v : Volume) (at : ℕ → List ℕ) (low : ℕ) (r : RefcountRec) → is_sound_refcount (over v at) low r ≡ is_sound_refcount v low r
unfolding is_sound_refcount
sound_refcount_same v at low r = refl

read_refcounts_same : (v : Volume) (at : ℕ → List ℕ) (b : ℕ) (rs : List RefcountRec) (t : Refcounts) → read_refcounts (over v at) b rs t ≡ read_refcounts v b rs t
read_refcounts_same v at b [] t = refl
read_refcounts_same v at b (r ∷ rs) t = elim (cases_Bool (is_sound_refcount v (refcount_end t.records) r)) [
  | inl sound ↦ rw (sound_refcount_same v at (refcount_end t.records) r, sound) (read_refcounts_same v at b rs _)
  | inr bad ↦ rw (sound_refcount_same v at (refcount_end t.records) r, bad) refl
]

records_same : (v : Volume) (at : ℕ → List ℕ) (b : ℕ) → at b ≡ v.at b → refcount_records (over v at) b ≡ refcount_records v b
unfolding refcount_records
records_same v at b same = rw (refcount_block_same v at b same, same) refl

read_block_same : (v : Volume) (at : ℕ → List ℕ) (t : Refcounts) (b : ℕ) → at b ≡ v.at b → read_refcount_block (over v at) t b ≡ read_refcount_block v t b
read_block_same v at t b same =
    rw (refcount_block_same v at b same, records_same v at b same, read_refcounts_same v at b (refcount_records v b) t, same) refl

record_block_held : (v : Volume) (root b : ℕ) → failing v ≡ [] → Contains (refcount_roots v) root → Contains (record_blocks v root) b → is_held v b ≡ true
record_block_held v root b none is inside = elim (cases_Bool (has_leaf_blocks v root)) [
  | inl has ↦ leaf_held v root b none is (rw has at inside)
  | inr alone ↦ subst (λ x. is_held v x ≡ true) (contains_one root b (rw alone at inside)) (root_held v root none is)
]

record_blocks_same : (v : Volume) (at : ℕ → List ℕ) (root : ℕ) → failing v ≡ [] → AgreesOnHeld v at → Contains (refcount_roots v) root → record_blocks (over v at) root ≡ record_blocks v root
record_blocks_same v at root none agrees is =
    rw (has_leaf_blocks_same v at root (root_same v at root none agrees is), held_tell_leaf_list v at root none agrees is) refl

pub held_tell_refcounts : (v : Volume) (at : ℕ → List ℕ) (root : ℕ) → failing v ≡ [] → AgreesOnHeld v at → Contains (refcount_roots v) root → refcounts (over v at) root ≡ refcounts v root
unfolding refcounts
held_tell_refcounts v at root none agrees is =
    let start : Refcounts = record { records = []; faults = [] } in
    ap (fold (read_refcount_block (over v at)) start) (record_blocks_same v at root none agrees is)
    ∙ fold_agree (read_refcount_block (over v at)) (read_refcount_block v) start (record_blocks v root)
    (λ t b inside. read_block_same v at t b (agrees.same b (record_block_held v root b none is inside)))
