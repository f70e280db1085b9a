-- Where nothing fails, the checks of refcount trees are the same over blocks that agree on the held ones.
use Rattle.std.proofs.Common.{◌≡◌, ℕ, ◌%◌, ◌^◌, Bool, ◌&&◌, ◌==◌, List, [], ◌++◌, length, refl, ◌∙◌, ap}
use Rattle.std.specs.Prelude.{filter, flat_map}
use Rattle.std.specs.List.{Contains, list_any, list_all}
use Rattle.o2_model.specs.declared.check.Check.TheVariants as check
use Rattle.o2_model.specs.Faults.{fails_at, fails_unless}
use Rattle.o2_model.specs.Words.{among}
use Rattle.o2_model.specs.Volume.{Volume, over}
use Rattle.o2_model.specs.LeafRecords.{is_refcounted}
use Rattle.o2_model.specs.Files.{shared_references}
use Rattle.o2_model.specs.Groups.{inodes_of}
use Rattle.o2_model.specs.declared.placed_refcount.PlacedRefcount.{PlacedRefcount}
use Rattle.o2_model.specs.RefcountTrees.{Refcounts, refcount_roots, inodes_of_tree, is_refcount_block, refcount_block, refcounts}
use Rattle.o2_model.specs.Checks.RefTree.{has_tree, has_refcounted, is_sound_root_block, ref_tree_faults_of, ref_tree_faults}
use Rattle.o2_model.specs.Checks.RefCover.{tree_references, record_clusters, is_shared_evenly, is_covering, ref_cover_faults}
use Rattle.o2_model.specs.Checks.RefCount.{has_sound_count, ref_count_faults_of, ref_count_faults}
use Rattle.o2_model.specs.Checks.RefUsers.{ref_users_faults}
use Rattle.o2_model.specs.Failing.{faults, failing}
use Rattle.o2_laws.proofs.Held.HeldBlocks.{AgreesOnHeld}
use Rattle.o2_laws.proofs.Members.{contains_filter}
use Rattle.o2_laws.proofs.Agreeing.{flat_map_agree, filter_agree_on, fails_agree}
use Rattle.o2_laws.proofs.Held.HeldTables.{held_tell_inodes}
use Rattle.o2_laws.proofs.Kept.BlockNames.{refcount_block_same}
use Rattle.o2_laws.proofs.Kept.RootsKeep.{listed_dinode_same, held_tell_roots, held_tell_tree_inodes}
use Rattle.o2_laws.proofs.Kept.RefcountsKeep.{root_same, held_tell_leaf_list, held_tell_refcounts}
use Rattle.o2_laws.proofs.Kept.MetadataKeeps.{held_tell_records}
use Rattle.o2_laws.proofs.Kept.SharingKeeps.{held_tell_references}
use Rattle.o2_laws.proofs.Held.HeldTells.{listed_is_inode}

-- ---- the roots that are refcount blocks
abbrev good_roots : Volume → List ℕ
good_roots v = filter (is_refcount_block v) (refcount_roots v)

good_is_root : (v : Volume) (root : ℕ) → Contains (good_roots v) root → Contains (refcount_roots v) root
good_is_root v root is = (contains_filter (is_refcount_block v) (refcount_roots v) root is).0

good_roots_same : (v : Volume) (at : ℕ → List ℕ) → failing v ≡ [] → AgreesOnHeld v at → good_roots (over v at) ≡ good_roots v
good_roots_same v at none agrees =
    ap (filter (is_refcount_block (over v at))) (held_tell_roots v at none agrees)
    ∙ filter_agree_on (is_refcount_block (over v at)) (is_refcount_block v) (refcount_roots v) (λ root is. refcount_block_same v at root (root_same v at root none agrees is))

-- ---- REF_TREE
has_tree_same : (v : Volume) (at : ℕ → List ℕ) (b : ℕ) → at b ≡ v.at b → has_tree (over v at) b ≡ has_tree v b
has_tree_same v at b same = rw same refl

refcounted_same : (v : Volume) (at : ℕ → List ℕ) (b : ℕ) → failing v ≡ [] → AgreesOnHeld v at → Contains (inodes_of v) b → has_refcounted (over v at) b ≡ has_refcounted v b
refcounted_same v at b none agrees is = ap (list_any is_refcounted) (held_tell_records v at b none agrees (listed_is_inode v b is))

refcounted_inodes_same : (v : Volume) (at : ℕ → List ℕ) → failing v ≡ [] → AgreesOnHeld v at → filter (has_refcounted (over v at)) (inodes_of (over v at)) ≡ filter (has_refcounted v) (inodes_of v)
refcounted_inodes_same v at none agrees =
    ap (filter (has_refcounted (over v at))) (held_tell_inodes v at none agrees)
    ∙ filter_agree_on (has_refcounted (over v at)) (has_refcounted v) (inodes_of v) (λ b is. refcounted_same v at b none agrees is)

-- the inodes without a tree that have refcounted records
without_tree_same : (v : Volume) (at : ℕ → List ℕ) → failing v ≡ [] → AgreesOnHeld v at
    → fails_at (λ b. b) (has_tree (over v at)) (filter (has_refcounted (over v at)) (inodes_of (over v at))) ≡ fails_at (λ b. b) (has_tree v) (filter (has_refcounted v) (inodes_of v))
without_tree_same v at none agrees =
    ap (fails_at (λ b. b) (has_tree (over v at))) (refcounted_inodes_same v at none agrees)
    ∙ fails_agree (λ b. b) (has_tree (over v at)) (has_tree v) (filter (has_refcounted v) (inodes_of v))
    (λ b is. has_tree_same v at b (listed_dinode_same v at b agrees (contains_filter (has_refcounted v) (inodes_of v) b is).0))

sound_root_same : (v : Volume) (at : ℕ → List ℕ) (root : ℕ) → failing v ≡ [] → AgreesOnHeld v at → Contains (refcount_roots v) root → is_sound_root_block (over v at) root ≡ is_sound_root_block v root
sound_root_same v at root none agrees is =
    rw (refcount_block_same v at root (root_same v at root none agrees is), held_tell_leaf_list v at root none agrees is) refl

tree_faults_same : (v : Volume) (at : ℕ → List ℕ) (root : ℕ) → failing v ≡ [] → AgreesOnHeld v at → Contains (refcount_roots v) root → ref_tree_faults_of (over v at) root ≡ ref_tree_faults_of v root
tree_faults_same v at root none agrees is =
    ap (λ sound. fails_unless root sound ++ (refcounts (over v at) root).faults) (sound_root_same v at root none agrees is)
    ∙ ap (λ t. fails_unless root (is_sound_root_block v root) ++ t.faults) (held_tell_refcounts v at root none agrees is)

all_tree_faults_same : (v : Volume) (at : ℕ → List ℕ) → failing v ≡ [] → AgreesOnHeld v at
    → flat_map (ref_tree_faults_of (over v at)) (refcount_roots (over v at)) ≡ flat_map (ref_tree_faults_of v) (refcount_roots v)
all_tree_faults_same v at none agrees =
    ap (flat_map (ref_tree_faults_of (over v at))) (held_tell_roots v at none agrees)
    ∙ flat_map_agree (ref_tree_faults_of (over v at)) (ref_tree_faults_of v) (refcount_roots v) (λ root is. tree_faults_same v at root none agrees is)

ref_tree_same : (v : Volume) (at : ℕ → List ℕ) → failing v ≡ [] → AgreesOnHeld v at → ref_tree_faults (over v at) ≡ ref_tree_faults v
ref_tree_same v at none agrees =
    ap (λ bs. bs ++ flat_map (ref_tree_faults_of (over v at)) (refcount_roots (over v at))) (without_tree_same v at none agrees)
    ∙ ap (λ bs. fails_at (λ b. b) (has_tree v) (filter (has_refcounted v) (inodes_of v)) ++ bs) (all_tree_faults_same v at none agrees)

pub keeps_ref_tree : (v : Volume) (at : ℕ → List ℕ) → failing v ≡ [] → AgreesOnHeld v at → faults (over v at) check.RefTree ≡ faults v check.RefTree
unfolding faults
keeps_ref_tree v at none agrees = ref_tree_same v at none agrees

-- ---- REF_COVER
tree_inode_listed : (v : Volume) (root b : ℕ) → Contains (inodes_of_tree v root) b → Contains (inodes_of v) b
unfolding inodes_of_tree
tree_inode_listed v root b is = (contains_filter _ (inodes_of v) b is).0

pub held_tell_tree_references : (v : Volume) (at : ℕ → List ℕ) (root : ℕ) → failing v ≡ [] → AgreesOnHeld v at → tree_references (over v at) root ≡ tree_references v root
unfolding tree_references
held_tell_tree_references v at root none agrees =
    ap (flat_map (shared_references (over v at))) (held_tell_tree_inodes v at root none agrees)
    ∙ flat_map_agree (shared_references (over v at)) (shared_references v) (inodes_of_tree v root)
    (λ b is. held_tell_references v at b none agrees (listed_is_inode v b (tree_inode_listed v root b is)))

-- the records have just these references
abbrev covers : List ℕ → Refcounts → Bool
covers references t =
    list_all (λ p. is_shared_evenly references p.fields) t.records
    && list_all (λ c. list_any (λ p. among (record_clusters p.fields) c) t.records) references

covering_same : (v : Volume) (at : ℕ → List ℕ) (root : ℕ) → failing v ≡ [] → AgreesOnHeld v at → Contains (refcount_roots v) root → is_covering (over v at) root ≡ is_covering v root
unfolding is_covering
covering_same v at root none agrees is =
    ap (λ references. covers references (refcounts (over v at) root)) (held_tell_tree_references v at root none agrees)
    ∙ ap (covers (tree_references v root)) (held_tell_refcounts v at root none agrees is)

ref_cover_same : (v : Volume) (at : ℕ → List ℕ) → failing v ≡ [] → AgreesOnHeld v at → ref_cover_faults (over v at) ≡ ref_cover_faults v
ref_cover_same v at none agrees =
    ap (fails_at (λ root. root) (is_covering (over v at))) (good_roots_same v at none agrees)
    ∙ fails_agree (λ root. root) (is_covering (over v at)) (is_covering v) (good_roots v) (λ root is. covering_same v at root none agrees (good_is_root v root is))

pub keeps_ref_cover : (v : Volume) (at : ℕ → List ℕ) → failing v ≡ [] → AgreesOnHeld v at → faults (over v at) check.RefCover ≡ faults v check.RefCover
unfolding faults
keeps_ref_cover v at none agrees = ref_cover_same v at none agrees

-- ---- REF_COUNT
count_faults_same : (v : Volume) (at : ℕ → List ℕ) (root : ℕ) → failing v ≡ [] → AgreesOnHeld v at → Contains (refcount_roots v) root → ref_count_faults_of (over v at) root ≡ ref_count_faults_of v root
count_faults_same v at root none agrees is =
    ap (λ references. fails_at (λ (p : PlacedRefcount). p.block) (has_sound_count references) (refcounts (over v at) root).records) (held_tell_tree_references v at root none agrees)
    ∙ ap (λ t. fails_at (λ (p : PlacedRefcount). p.block) (has_sound_count (tree_references v root)) t.records) (held_tell_refcounts v at root none agrees is)

ref_count_same : (v : Volume) (at : ℕ → List ℕ) → failing v ≡ [] → AgreesOnHeld v at → ref_count_faults (over v at) ≡ ref_count_faults v
ref_count_same v at none agrees =
    ap (flat_map (ref_count_faults_of (over v at))) (good_roots_same v at none agrees)
    ∙ flat_map_agree (ref_count_faults_of (over v at)) (ref_count_faults_of v) (good_roots v) (λ root is. count_faults_same v at root none agrees (good_is_root v root is))

pub keeps_ref_count : (v : Volume) (at : ℕ → List ℕ) → failing v ≡ [] → AgreesOnHeld v at → faults (over v at) check.RefCount ≡ faults v check.RefCount
unfolding faults
keeps_ref_count v at none agrees = ref_count_same v at none agrees

-- ---- REF_USERS
-- the root tells the number of the tree's inodes
abbrev tells_users : Volume → ℕ → Bool
tells_users v root = (refcount_block v root).count == length (inodes_of_tree v root) % 2 ^ 32

users_same : (v : Volume) (at : ℕ → List ℕ) (root : ℕ) → failing v ≡ [] → AgreesOnHeld v at → Contains (refcount_roots v) root → tells_users (over v at) root ≡ tells_users v root
users_same v at root none agrees is = rw (root_same v at root none agrees is, held_tell_tree_inodes v at root none agrees) refl

ref_users_same : (v : Volume) (at : ℕ → List ℕ) → failing v ≡ [] → AgreesOnHeld v at → ref_users_faults (over v at) ≡ ref_users_faults v
ref_users_same v at none agrees =
    ap (fails_at (λ root. root) (tells_users (over v at))) (good_roots_same v at none agrees)
    ∙ fails_agree (λ root. root) (tells_users (over v at)) (tells_users v) (good_roots v) (λ root is. users_same v at root none agrees (good_is_root v root is))

pub keeps_ref_users : (v : Volume) (at : ℕ → List ℕ) → failing v ≡ [] → AgreesOnHeld v at → faults (over v at) check.RefUsers ≡ faults v check.RefUsers
unfolding faults
keeps_ref_users v at none agrees = ref_users_same v at none agrees
