-- Where nothing fails, the checks of the leaf blocks of extent lists are the same over blocks that agree on the held ones.
use Rattle.std.proofs.Common.{◌≡◌, inl, inr, ℕ, Bool, true, ◌==◌, List, [], ◌∷◌, ◌++◌, refl, sym, ◌∙◌, ap, subst}
use Rattle.std.specs.Prelude.{filter, flat_map, fold}
use Rattle.std.specs.List.{Contains}
use Rattle.std.proofs.lemmas.List.Elements.{Contains-append_cases}
use Rattle.o2_model.specs.declared.check.Check.TheVariants as check
use Rattle.o2_model.specs.Faults.{fails_at, fails_unless}
use Rattle.o2_model.specs.Volume.{Volume, over, dinode}
use Rattle.o2_model.specs.Extents.{Extents, extent_block, list_in_block}
use Rattle.o2_model.specs.Inodes.{extents, has_list, extent_lists_of}
use Rattle.o2_model.specs.Groups.{inodes_of}
use Rattle.o2_model.specs.RefcountTrees.{refcount_block, refcount_roots, has_leaf_blocks, leaf_list}
use Rattle.o2_model.specs.Checks.EbNext.{leaf_blocks, next_faults, all_lists, eb_next_faults}
use Rattle.o2_model.specs.Checks.LastEb.{last_leaf, last_eb_faults}
use Rattle.o2_model.specs.Failing.{faults, failing}
use Rattle.o2_laws.proofs.Held.HeldBlocks.{is_held}
use Rattle.o2_laws.proofs.Held.HeldBlocks.{AgreesOnHeld}
use Rattle.o2_laws.proofs.Found.{contains_first, contains_later}
use Rattle.o2_laws.proofs.Members.{contains_one, contains_filter, contains_flat, flat_contains}
use Rattle.o2_laws.proofs.Agreeing.{flat_map_agree, filter_agree_on, fails_agree}
use Rattle.o2_laws.proofs.Readings.{same_has_list}
use Rattle.o2_laws.proofs.WellRead.{extent_blocks_are}
use Rattle.o2_laws.proofs.Held.HeldTells.{held_tell_extents, listed_is_inode}
use Rattle.o2_laws.proofs.Held.HeldTables.{held_tell_inodes}
use Rattle.o2_laws.proofs.Kept.BlockNames.{has_leaf_blocks_same}
use Rattle.o2_laws.proofs.Kept.RootsKeep.{listed_dinode_same, held_tell_roots}
use Rattle.o2_laws.proofs.Kept.RefcountsKeep.{list_block_held, root_same, held_tell_leaf_list}
use Rattle.o2_laws.proofs.Kept.MetadataKeeps.{held_tell_lists, inode_block_held}

-- ---- the leaf blocks of a list whose blocks are the same
is_leaf_same : (v : Volume) (at : ℕ → List ℕ) (b : ℕ) → at b ≡ v.at b → ((list_in_block (over v at) b).header.tree_depth == 0) ≡ ((list_in_block v b).header.tree_depth == 0)
is_leaf_same v at b same = rw same refl

leaf_blocks_same : (v : Volume) (at : ℕ → List ℕ) (t : Extents) → ((b : ℕ) → Contains t.blocks b → at b ≡ v.at b) → leaf_blocks (over v at) t ≡ leaf_blocks v t
unfolding leaf_blocks
leaf_blocks_same v at t same = filter_agree_on _ _ t.blocks (λ b is. is_leaf_same v at b (same b is))

leaf_in_list : (v : Volume) (t : Extents) (b : ℕ) → Contains (leaf_blocks v t) b → Contains t.blocks b
unfolding leaf_blocks
leaf_in_list v t b is = (contains_filter _ t.blocks b is).0

names_next_same : (v : Volume) (at : ℕ → List ℕ) (b next : ℕ) → at b ≡ v.at b
    → fails_unless b ((extent_block (over v at) b).next_leaf_blk == next) ≡ fails_unless b ((extent_block v b).next_leaf_blk == next)
names_next_same v at b next same = rw same refl

next_faults_same : (v : Volume) (at : ℕ → List ℕ) (bs : List ℕ) → ((b : ℕ) → Contains bs b → at b ≡ v.at b) → next_faults (over v at) bs ≡ next_faults v bs
next_faults_same v at [] same = refl
next_faults_same v at (b ∷ []) same = names_next_same v at b 0 (same b (contains_first b []))
next_faults_same v at (b ∷ c ∷ rest) same =
    ap (λ bs. bs ++ next_faults (over v at) (c ∷ rest)) (names_next_same v at b c (same b (contains_first b (c ∷ rest))))
    ∙ ap (λ bs. fails_unless b ((extent_block v b).next_leaf_blk == c) ++ bs) (next_faults_same v at (c ∷ rest) (λ a is. same a (contains_later b a (c ∷ rest) is)))

-- ---- EB_NEXT
-- what one tree adds to the lists
abbrev tree_lists : Volume → ℕ → List Extents
tree_lists v root = leaf_list v root ∷ []

inode_lists_same : (v : Volume) (at : ℕ → List ℕ) → failing v ≡ [] → AgreesOnHeld v at → flat_map (extent_lists_of (over v at)) (inodes_of (over v at)) ≡ flat_map (extent_lists_of v) (inodes_of v)
inode_lists_same v at none agrees =
    ap (flat_map (extent_lists_of (over v at))) (held_tell_inodes v at none agrees)
    ∙ flat_map_agree (extent_lists_of (over v at)) (extent_lists_of v) (inodes_of v) (λ i is. held_tell_lists v at i none agrees (listed_is_inode v i is))

tree_lists_same : (v : Volume) (at : ℕ → List ℕ) → failing v ≡ [] → AgreesOnHeld v at → flat_map (tree_lists (over v at)) (refcount_roots (over v at)) ≡ flat_map (tree_lists v) (refcount_roots v)
tree_lists_same v at none agrees =
    ap (flat_map (tree_lists (over v at))) (held_tell_roots v at none agrees)
    ∙ flat_map_agree (tree_lists (over v at)) (tree_lists v) (refcount_roots v) (λ root is. ap (λ t. t ∷ []) (held_tell_leaf_list v at root none agrees is))

pub held_tell_all_lists : (v : Volume) (at : ℕ → List ℕ) → failing v ≡ [] → AgreesOnHeld v at → all_lists (over v at) ≡ all_lists v
held_tell_all_lists v at none agrees =
    ap (λ ts. ts ++ flat_map (tree_lists (over v at)) (refcount_roots (over v at))) (inode_lists_same v at none agrees)
    ∙ ap (λ ts. flat_map (extent_lists_of v) (inodes_of v) ++ ts) (tree_lists_same v at none agrees)

block_of_list_held : (v : Volume) (t : Extents) (b : ℕ) → failing v ≡ [] → Contains (all_lists v) t → Contains t.blocks b → is_held v b ≡ true
block_of_list_held v t b none is inside = elim (Contains-append_cases (flat_map (extent_lists_of v) (inodes_of v)) (flat_map (tree_lists v) (refcount_roots v)) t is) [
  | inl of_inode ↦
      let i = flat_contains (extent_lists_of v) (inodes_of v) t of_inode in
      inode_block_held v i.item b none i.inside (contains_flat (λ (x : Extents). x.blocks) (extent_lists_of v i.item) t b i.has inside)
  | inr of_tree ↦
      let root = flat_contains (tree_lists v) (refcount_roots v) t of_tree in
      list_block_held v root.item b none root.inside (subst (λ (x : Extents). Contains x.blocks b) (sym (contains_one (leaf_list v root.item) t root.has)) inside)
]

-- the faults of one list
abbrev list_next_faults : Volume → Extents → List ℕ
list_next_faults v t = next_faults v (leaf_blocks v t)

list_next_same : (v : Volume) (at : ℕ → List ℕ) (t : Extents) → ((b : ℕ) → Contains t.blocks b → at b ≡ v.at b) → list_next_faults (over v at) t ≡ list_next_faults v t
list_next_same v at t same =
    ap (next_faults (over v at)) (leaf_blocks_same v at t same)
    ∙ next_faults_same v at (leaf_blocks v t) (λ b is. same b (leaf_in_list v t b is))

eb_next_same : (v : Volume) (at : ℕ → List ℕ) → failing v ≡ [] → AgreesOnHeld v at → eb_next_faults (over v at) ≡ eb_next_faults v
eb_next_same v at none agrees =
    ap (flat_map (list_next_faults (over v at))) (held_tell_all_lists v at none agrees)
    ∙ flat_map_agree (list_next_faults (over v at)) (list_next_faults v) (all_lists v)
    (λ t is. list_next_same v at t (λ b inside. agrees.same b (block_of_list_held v t b none is inside)))

pub keeps_eb_next : (v : Volume) (at : ℕ → List ℕ) → failing v ≡ [] → AgreesOnHeld v at → faults (over v at) check.EbNext ≡ faults v check.EbNext
unfolding faults
keeps_eb_next v at none agrees = eb_next_same v at none agrees

-- ---- LAST_EB
last_leaf_same : (v : Volume) (at : ℕ → List ℕ) (t : Extents) → ((b : ℕ) → Contains t.blocks b → at b ≡ v.at b) → last_leaf (over v at) t ≡ last_leaf v t
last_leaf_same v at t same = ap (fold (λ n b. b) 0) (leaf_blocks_same v at t same)

-- the dinode names the last leaf block of its list
abbrev names_last : Volume → ℕ → Bool
names_last v b = (dinode v b).last_eb_blk == last_leaf v (extents v b)

inode_block_same : (v : Volume) (at : ℕ → List ℕ) (i b : ℕ) → failing v ≡ [] → AgreesOnHeld v at → Contains (inodes_of v) i → Contains (extents v i).blocks b → at b ≡ v.at b
inode_block_same v at i b none agrees is inside =
    agrees.same b (inode_block_held v i b none is (subst (λ bs. Contains bs b) (sym (extent_blocks_are v i)) inside))

last_named_same : (v : Volume) (at : ℕ → List ℕ) (i : ℕ) → at i ≡ v.at i → (dinode (over v at) i).last_eb_blk ≡ (dinode v i).last_eb_blk
last_named_same v at i same = rw same refl

names_last_same : (v : Volume) (at : ℕ → List ℕ) (i : ℕ) → failing v ≡ [] → AgreesOnHeld v at → Contains (inodes_of v) i → names_last (over v at) i ≡ names_last v i
names_last_same v at i none agrees is =
    ap (λ n. n == last_leaf (over v at) (extents (over v at) i)) (last_named_same v at i (listed_dinode_same v at i agrees is))
    ∙ ap (λ t. (dinode v i).last_eb_blk == last_leaf (over v at) t) (held_tell_extents v at i none agrees (listed_is_inode v i is))
    ∙ ap (λ n. (dinode v i).last_eb_blk == n) (last_leaf_same v at (extents v i) (λ b inside. inode_block_same v at i b none agrees is inside))

-- the root names the last leaf block of its list
abbrev root_names_last : Volume → ℕ → Bool
root_names_last v root = (refcount_block v root).last_eb_blk == last_leaf v (leaf_list v root)

last_of_root_same : (v : Volume) (at : ℕ → List ℕ) (root : ℕ) → at root ≡ v.at root → (refcount_block (over v at) root).last_eb_blk ≡ (refcount_block v root).last_eb_blk
last_of_root_same v at root same = rw same refl

root_names_last_same : (v : Volume) (at : ℕ → List ℕ) (root : ℕ) → failing v ≡ [] → AgreesOnHeld v at → Contains (refcount_roots v) root → root_names_last (over v at) root ≡ root_names_last v root
root_names_last_same v at root none agrees is =
    ap (λ n. n == last_leaf (over v at) (leaf_list (over v at) root)) (last_of_root_same v at root (root_same v at root none agrees is))
    ∙ ap (λ t. (refcount_block v root).last_eb_blk == last_leaf (over v at) t) (held_tell_leaf_list v at root none agrees is)
    ∙ ap (λ n. (refcount_block v root).last_eb_blk == n)
    (last_leaf_same v at (leaf_list v root) (λ b inside. agrees.same b (list_block_held v root b none is inside)))

-- the inodes with a list, and the roots with leaf blocks
inodes_with_list_same : (v : Volume) (at : ℕ → List ℕ) → failing v ≡ [] → AgreesOnHeld v at → filter (has_list (over v at)) (inodes_of (over v at)) ≡ filter (has_list v) (inodes_of v)
inodes_with_list_same v at none agrees =
    ap (filter (has_list (over v at))) (held_tell_inodes v at none agrees)
    ∙ filter_agree_on (has_list (over v at)) (has_list v) (inodes_of v) (λ i is. same_has_list v at i (listed_dinode_same v at i agrees is))

roots_with_leaves_same : (v : Volume) (at : ℕ → List ℕ) → failing v ≡ [] → AgreesOnHeld v at
    → filter (has_leaf_blocks (over v at)) (refcount_roots (over v at)) ≡ filter (has_leaf_blocks v) (refcount_roots v)
roots_with_leaves_same v at none agrees =
    ap (filter (has_leaf_blocks (over v at))) (held_tell_roots v at none agrees)
    ∙ filter_agree_on (has_leaf_blocks (over v at)) (has_leaf_blocks v) (refcount_roots v) (λ root is. has_leaf_blocks_same v at root (root_same v at root none agrees is))

last_of_inodes_same : (v : Volume) (at : ℕ → List ℕ) → failing v ≡ [] → AgreesOnHeld v at
    → fails_at (λ b. b) (names_last (over v at)) (filter (has_list (over v at)) (inodes_of (over v at))) ≡ fails_at (λ b. b) (names_last v) (filter (has_list v) (inodes_of v))
last_of_inodes_same v at none agrees =
    ap (fails_at (λ b. b) (names_last (over v at))) (inodes_with_list_same v at none agrees)
    ∙ fails_agree (λ b. b) (names_last (over v at)) (names_last v) (filter (has_list v) (inodes_of v))
    (λ i is. names_last_same v at i none agrees (contains_filter (has_list v) (inodes_of v) i is).0)

last_of_roots_same : (v : Volume) (at : ℕ → List ℕ) → failing v ≡ [] → AgreesOnHeld v at
    → fails_at (λ b. b) (root_names_last (over v at)) (filter (has_leaf_blocks (over v at)) (refcount_roots (over v at)))
    ≡ fails_at (λ b. b) (root_names_last v) (filter (has_leaf_blocks v) (refcount_roots v))
last_of_roots_same v at none agrees =
    ap (fails_at (λ b. b) (root_names_last (over v at))) (roots_with_leaves_same v at none agrees)
    ∙ fails_agree (λ b. b) (root_names_last (over v at)) (root_names_last v) (filter (has_leaf_blocks v) (refcount_roots v))
    (λ root is. root_names_last_same v at root none agrees (contains_filter (has_leaf_blocks v) (refcount_roots v) root is).0)

last_eb_same : (v : Volume) (at : ℕ → List ℕ) → failing v ≡ [] → AgreesOnHeld v at → last_eb_faults (over v at) ≡ last_eb_faults v
last_eb_same v at none agrees =
    ap (λ bs. bs ++ fails_at (λ b. b) (root_names_last (over v at)) (filter (has_leaf_blocks (over v at)) (refcount_roots (over v at)))) (last_of_inodes_same v at none agrees)
    ∙ ap (λ bs. fails_at (λ b. b) (names_last v) (filter (has_list v) (inodes_of v)) ++ bs) (last_of_roots_same v at none agrees)

pub keeps_last_eb : (v : Volume) (at : ℕ → List ℕ) → failing v ≡ [] → AgreesOnHeld v at → faults (over v at) check.LastEb ≡ faults v check.LastEb
unfolding faults
keeps_last_eb v at none agrees = last_eb_same v at none agrees
