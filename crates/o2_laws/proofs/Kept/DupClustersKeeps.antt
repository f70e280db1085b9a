-- Where nothing fails, blocks that agree on the held ones have the same answer of DUP_CLUSTERS.
use Rattle.std.proofs.Common.{◌≡◌, ⊎_elim, ℕ, Bool, true, ◌&&◌, ◌||◌, not, ◌==◌, List, [], ◌∷◌, map, length, refl, sym, ◌∙◌, ap, subst, arith}
use Rattle.std.specs.Prelude.{filter, flat_map}
use Rattle.std.specs.List.{Contains, list_all}
use Rattle.o2_model.specs.declared.check.Check.TheVariants as check
use Rattle.o2_model.specs.Faults.{fails_at}
use Rattle.o2_model.specs.Volume.{Volume, over}
use Rattle.o2_model.specs.Inodes.{records_of}
use Rattle.o2_model.specs.LeafRecords.{clusters_under, is_refcounted}
use Rattle.o2_model.specs.Groups.{is_inode, inodes_of}
use Rattle.o2_model.specs.Claims.{structure_claims, is_claimed}
use Rattle.o2_model.specs.Checks.DupClusters.{ClusterUse, uses_under, uses_by, uses_of, share_tree, may_share, is_sole_or_shared}
use Rattle.o2_model.specs.Failing.{faults, failing}
use Rattle.o2_laws.proofs.Held.HeldBlocks.{AgreesOnHeld}
use Rattle.o2_laws.proofs.Members.{contains_cases, contains_filter, flat_contains}
use Rattle.o2_laws.proofs.Agreeing.{flat_map_agree, all_agree, fails_agree}
use Rattle.o2_laws.proofs.Held.HeldTells.{dinode_same, listed_is_inode}
use Rattle.o2_laws.proofs.Held.HeldTables.{held_tell_inodes}
use Rattle.o2_laws.proofs.Kept.ClaimsKeep.{held_tell_structure_claims}
use Rattle.o2_laws.proofs.Kept.MetadataKeeps.{held_tell_records}

-- ---- uses
pub held_tell_uses_by : (v : Volume) (at : ℕ → List ℕ) (b : ℕ) → failing v ≡ [] → AgreesOnHeld v at → is_inode v b ≡ true → uses_by (over v at) b ≡ uses_by v b
unfolding uses_by
held_tell_uses_by v at b none agrees is = ap (flat_map (uses_under v b)) (held_tell_records v at b none agrees is)

uses_same : (v : Volume) (at : ℕ → List ℕ) (c : ℕ) → failing v ≡ [] → AgreesOnHeld v at → uses_of (over v at) c ≡ uses_of v c
uses_same v at c none agrees =
    ap (λ is. filter (λ u. u.cluster == c) (flat_map (uses_by (over v at)) is)) (held_tell_inodes v at none agrees)
    ∙ ap (filter (λ u. u.cluster == c)) (flat_map_agree (uses_by (over v at)) (uses_by v) (inodes_of v) (λ b is. held_tell_uses_by v at b none agrees (listed_is_inode v b is)))

-- a use of an inode is by that inode
use_under : (b : ℕ) (shared : Bool) (cs : List ℕ) (u : ClusterUse) → Contains (map (λ c. record { inode = b; cluster = c; is_shared = shared }) cs) u → u.inode ≡ b
use_under b shared [] u is = absurd (omega (arith, is.1))
use_under b shared (c ∷ cs) u is = ⊎_elim
    (λ here. ap (λ (x : ClusterUse). x.inode) (sym here))
    (λ there. use_under b shared cs u there)
    (contains_cases _ u _ is)

use_by : (v : Volume) (b : ℕ) (u : ClusterUse) → Contains (uses_by v b) u → u.inode ≡ b
unfolding uses_by
use_by v b u is =
    let r = flat_contains (uses_under v b) (records_of v b) u is in
    use_under b (is_refcounted r.item) (clusters_under v r.item) u r.has

use_inode : (v : Volume) (b : ℕ) (u : ClusterUse) → is_inode v b ≡ true → Contains (uses_by v b) u → is_inode v u.inode ≡ true
use_inode v b u inode is = subst (λ x. is_inode v x ≡ true) (sym (use_by v b u is)) inode

among_uses : (v : Volume) (c : ℕ) (u : ClusterUse) → Contains (uses_of v c) u → is_inode v u.inode ≡ true
among_uses v c u is =
    let all = flat_map (uses_by v) (inodes_of v) in
    let b = flat_contains (uses_by v) (inodes_of v) u (contains_filter (λ u. u.cluster == c) all u is).0 in
    use_inode v b.item u (listed_is_inode v b.item b.inside) b.has

-- ---- which may share
trees_same : (v : Volume) (at : ℕ → List ℕ) (a b : ℕ) → at a ≡ v.at a → at b ≡ v.at b → share_tree (over v at) a b ≡ share_tree v a b
trees_same v at a b first second = rw (first, second) refl

share_same : (v : Volume) (at : ℕ → List ℕ) (u w : ClusterUse) → AgreesOnHeld v at → is_inode v u.inode ≡ true → is_inode v w.inode ≡ true → may_share (over v at) u w ≡ may_share v u w
share_same v at u w agrees first second =
    ap (λ x. u.is_shared && w.is_shared && (u.inode == w.inode || x)) (trees_same v at u.inode w.inode (dinode_same v at u.inode agrees first) (dinode_same v at w.inode agrees second))

sole_same : (v : Volume) (at : ℕ → List ℕ) (u : ClusterUse) → failing v ≡ [] → AgreesOnHeld v at → is_inode v u.inode ≡ true → is_sole_or_shared (over v at) u ≡ is_sole_or_shared v u
unfolding is_sole_or_shared
sole_same v at u none agrees inode =
    let holds = λ (us : List ClusterUse). length us == 1 || list_all (may_share (over v at) u) us in
    ap (λ ks. not (is_claimed ks u.cluster) && holds (uses_of (over v at) u.cluster)) (held_tell_structure_claims v at none agrees)
    ∙ (ap (λ us. not (is_claimed (structure_claims v) u.cluster) && holds us) (uses_same v at u.cluster none agrees)
    ∙ ap (λ x. not (is_claimed (structure_claims v) u.cluster) && (length (uses_of v u.cluster) == 1 || x))
    (all_agree (may_share (over v at) u) (may_share v u) (uses_of v u.cluster) (λ w is. share_same v at u w agrees inode (among_uses v u.cluster w is))))

uses_hold : (v : Volume) (at : ℕ → List ℕ) (b : ℕ) → failing v ≡ [] → AgreesOnHeld v at → is_inode v b ≡ true
    → list_all (is_sole_or_shared (over v at)) (uses_by (over v at) b) ≡ list_all (is_sole_or_shared v) (uses_by v b)
uses_hold v at b none agrees is =
    ap (list_all (is_sole_or_shared (over v at))) (held_tell_uses_by v at b none agrees is)
    ∙ all_agree (is_sole_or_shared (over v at)) (is_sole_or_shared v) (uses_by v b) (λ u inside. sole_same v at u none agrees (use_inode v b u is inside))

pub keeps_dup_clusters : (v : Volume) (at : ℕ → List ℕ) → failing v ≡ [] → AgreesOnHeld v at → faults (over v at) check.DupClusters ≡ faults v check.DupClusters
unfolding faults
keeps_dup_clusters v at none agrees =
    let holds = λ (w : Volume) (b : ℕ). list_all (is_sole_or_shared w) (uses_by w b) in
    ap (fails_at (λ b. b) (holds (over v at))) (held_tell_inodes v at none agrees)
    ∙ fails_agree (λ b. b) (holds (over v at)) (holds v) (inodes_of v) (λ b is. uses_hold v at b none agrees (listed_is_inode v b is))
