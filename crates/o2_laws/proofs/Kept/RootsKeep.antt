-- Where nothing fails, blocks that agree on the held ones have the same refcount roots, and the same inodes of each tree.
use Rattle.std.proofs.Common.{◌≡◌, ℕ, ◌&&◌, ◌==◌, List, [], map, refl, ◌∙◌, ap}
use Rattle.std.specs.Prelude.{filter}
use Rattle.std.specs.List.{Contains}
use Rattle.o2_model.specs.Orders.{rising}
use Rattle.o2_model.specs.Volume.{Volume, over, dinode}
use Rattle.o2_model.specs.Groups.{inodes_of}
use Rattle.o2_model.specs.RefcountTrees.{has_refcount, refcount_roots, inodes_of_tree}
use Rattle.o2_model.specs.Failing.{failing}
use Rattle.o2_laws.proofs.Held.HeldBlocks.{AgreesOnHeld}
use Rattle.o2_laws.proofs.Members.{contains_filter}
use Rattle.o2_laws.proofs.Agreeing.{map_agree, filter_agree_on}
use Rattle.o2_laws.proofs.Held.HeldTells.{dinode_same, listed_is_inode}
use Rattle.o2_laws.proofs.Held.HeldTables.{held_tell_inodes}

pub listed_dinode_same : (v : Volume) (at : ℕ → List ℕ) (b : ℕ) → AgreesOnHeld v at → Contains (inodes_of v) b → at b ≡ v.at b
listed_dinode_same v at b agrees is = dinode_same v at b agrees (listed_is_inode v b is)

-- ---- roots
has_refcount_same : (v : Volume) (at : ℕ → List ℕ) (b : ℕ) → at b ≡ v.at b → has_refcount (over v at) b ≡ has_refcount v b
has_refcount_same v at b same = rw same refl

named_root_same : (v : Volume) (at : ℕ → List ℕ) (b : ℕ) → at b ≡ v.at b → (dinode (over v at) b).refcount_loc ≡ (dinode v b).refcount_loc
named_root_same v at b same = rw same refl

pub held_tell_sharers : (v : Volume) (at : ℕ → List ℕ) → failing v ≡ [] → AgreesOnHeld v at → filter (has_refcount (over v at)) (inodes_of (over v at)) ≡ filter (has_refcount v) (inodes_of v)
held_tell_sharers v at none agrees =
    ap (filter (has_refcount (over v at))) (held_tell_inodes v at none agrees)
    ∙ filter_agree_on (has_refcount (over v at)) (has_refcount v) (inodes_of v) (λ b is. has_refcount_same v at b (listed_dinode_same v at b agrees is))

pub held_tell_roots : (v : Volume) (at : ℕ → List ℕ) → failing v ≡ [] → AgreesOnHeld v at → refcount_roots (over v at) ≡ refcount_roots v
unfolding refcount_roots
held_tell_roots v at none agrees =
    ap (λ bs. rising (map (λ b. (dinode (over v at) b).refcount_loc) bs)) (held_tell_sharers v at none agrees)
    ∙ ap rising (map_agree (λ b. (dinode (over v at) b).refcount_loc) (λ b. (dinode v b).refcount_loc) (filter (has_refcount v) (inodes_of v))
    (λ b is. named_root_same v at b (listed_dinode_same v at b agrees (contains_filter (has_refcount v) (inodes_of v) b is).0)))

-- ---- the inodes of a tree
of_tree_same : (v : Volume) (at : ℕ → List ℕ) (root b : ℕ) → at b ≡ v.at b
    → (has_refcount (over v at) b && (dinode (over v at) b).refcount_loc == root) ≡ (has_refcount v b && (dinode v b).refcount_loc == root)
of_tree_same v at root b same = rw same refl

pub held_tell_tree_inodes : (v : Volume) (at : ℕ → List ℕ) (root : ℕ) → failing v ≡ [] → AgreesOnHeld v at → inodes_of_tree (over v at) root ≡ inodes_of_tree v root
unfolding inodes_of_tree
held_tell_tree_inodes v at root none agrees =
    ap (filter (λ b. has_refcount (over v at) b && (dinode (over v at) b).refcount_loc == root)) (held_tell_inodes v at none agrees)
    ∙ filter_agree_on _ _ (inodes_of v) (λ b is. of_tree_same v at root b (listed_dinode_same v at b agrees is))
