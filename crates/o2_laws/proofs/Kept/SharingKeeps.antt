-- Where nothing fails, blocks that agree on the held ones share the same clusters.
use Rattle.std.proofs.Common.{◌≡◌, ℕ, true, ◌==◌, List, [], map, sym, ◌∙◌, ap}
use Rattle.std.specs.List.{Contains}
use Rattle.std.specs.Prelude.{filter, flat_map}
use Rattle.std.specs.FinMap as finite
use Rattle.std.specs.Ordering.{nat_cmp}
use Rattle.o2_model.specs.Volume.{Volume, over}
use Rattle.o2_model.specs.LeafRecords.{clusters_under, is_refcounted}
use Rattle.o2_model.specs.Files.{shared_references, tree_sharing, shared_clusters, times_in}
use Rattle.o2_model.specs.Groups.{is_inode}
use Rattle.o2_model.specs.Orders.{rising}
use Rattle.o2_model.specs.Tree.{tree_inodes}
use Rattle.o2_model.specs.Failing.{failing}
use Rattle.o2_laws.proofs.Held.HeldBlocks.{AgreesOnHeld}
use Rattle.o2_laws.proofs.Agreeing.{flat_map_agree}
use Rattle.o2_laws.proofs.Members.{contains_among, among_contains}
use Rattle.o2_laws.proofs.Rising.{any_rising}
use Rattle.o2_laws.proofs.Held.HeldFiles.{tree_readable, held_tell_tree_inodes}
use Rattle.o2_laws.proofs.Kept.MetadataKeeps.{held_tell_records}

-- ---- sharing
pub held_tell_references : (v : Volume) (at : ℕ → List ℕ) (i : ℕ) → failing v ≡ [] → AgreesOnHeld v at → is_inode v i ≡ true → shared_references (over v at) i ≡ shared_references v i
held_tell_references v at i none agrees is = ap (λ rs. flat_map (clusters_under v) (filter is_refcounted rs)) (held_tell_records v at i none agrees is)

contains_rising : (ns : List ℕ) (n : ℕ) → Contains (rising ns) n → Contains ns n
contains_rising ns n is = among_contains ns n (sym (any_rising (λ m. n == m) ns) ∙ contains_among (rising ns) n is)

tree_sharing_same : (v : Volume) (at : ℕ → List ℕ) → failing v ≡ [] → AgreesOnHeld v at → tree_sharing (over v at) ≡ tree_sharing v
tree_sharing_same v at none agrees =
    ap (λ bs. flat_map (shared_references (over v at)) (rising bs)) (held_tell_tree_inodes v at none agrees)
    ∙ flat_map_agree (shared_references (over v at)) (shared_references v) (rising (tree_inodes v))
    (λ i is. held_tell_references v at i none agrees (tree_readable v i none (contains_rising (tree_inodes v) i is)).inode)

-- The same clusters are shared, with as many references.
pub held_tell_sharing : (v : Volume) (at : ℕ → List ℕ) → failing v ≡ [] → AgreesOnHeld v at → shared_clusters (over v at) ≡ shared_clusters v
held_tell_sharing v at none agrees =
    ap (λ references. finite.from_entries {R = nat_cmp} (map {B = ℕ × ℕ} (λ c. (c, times_in references c)) references)) (tree_sharing_same v at none agrees)
