-- Where nothing fails, blocks that agree on the held ones have the same answers of BLOCK_ALLOC_BIT and CLUSTER_ALLOC_BIT.
use Rattle.std.proofs.Common.{◌≡◌, ℕ, Bool, ◌&&◌, List, [], ◌++◌, ◌∙◌, ap}
use Rattle.std.specs.Prelude.{filter, flat_map}
use Rattle.std.specs.Bool.{beq}
use Rattle.std.specs.List.{list_all, range_with_len}
use Rattle.o2_model.specs.declared.check.Check.TheVariants as check
use Rattle.o2_model.specs.declared.allocator.Group.{Group}
use Rattle.o2_model.specs.declared.claim.Claim.{Claim}
use Rattle.o2_model.specs.Words.{among}
use Rattle.o2_model.specs.Faults.{fails_at}
use Rattle.o2_model.specs.Orders.{from_to}
use Rattle.o2_model.specs.Volume.{Volume, over}
use Rattle.o2_model.specs.Allocators.{are_metadata}
use Rattle.o2_model.specs.Groups.{GroupWalk, groups, is_bit_set_in, block_of_bit, is_of_clusters}
use Rattle.o2_model.specs.Metadata.{metadata_blocks}
use Rattle.o2_model.specs.Indexes.{indexed_directories, index_blocks}
use Rattle.o2_model.specs.Claims.{claims_of, is_claimed}
use Rattle.o2_model.specs.Checks.Dx.{holds_index, directories_with_sound_index}
use Rattle.o2_model.specs.Checks.BlockAllocBit.{blocks_in_use, has_bits_of_blocks}
use Rattle.o2_model.specs.Checks.ClusterAllocBit.{cluster_of_bit, has_bits_of_claims}
use Rattle.o2_model.specs.Failing.{faults, failing}
use Rattle.o2_laws.proofs.Held.HeldBlocks.{AgreesOnHeld}
use Rattle.o2_laws.proofs.Members.{contains_filter}
use Rattle.o2_laws.proofs.Agreeing.{flat_map_agree, fails_agree}
use Rattle.o2_laws.proofs.Held.GroupsHeld.{descriptor_held}
use Rattle.o2_laws.proofs.Held.HeldTables.{held_tell_groups}
use Rattle.o2_laws.proofs.Kept.IndexesKeep.{held_tell_index_blocks}
use Rattle.o2_laws.proofs.Kept.ClaimsKeep.{held_tell_claims}
use Rattle.o2_laws.proofs.Kept.DxKeeps.{held_tell_sound_indexes}
use Rattle.o2_laws.proofs.Kept.MetadataKeeps.{held_tell_metadata}

-- ---- what is asked of each group of some kind
groups_same : (v : Volume) (at : ℕ → List ℕ) (kind : Group → Bool) (p q : Group → Bool) → failing v ≡ [] → AgreesOnHeld v at → ((g : Group) → at g.block ≡ v.at g.block → p g ≡ q g)
    → fails_at (λ g. g.block) p (filter kind (groups (over v at))) ≡ fails_at (λ g. g.block) q (filter kind (groups v))
groups_same v at kind p q none agrees asked =
    ap (λ (w : GroupWalk). fails_at (λ g. g.block) p (filter kind w.groups)) (held_tell_groups v at none agrees)
    ∙ fails_agree (λ g. g.block) p q (filter kind (groups v)) (λ g is. asked g (agrees.same g.block (descriptor_held v g (contains_filter kind (groups v) g is).0)))

-- ---- blocks
pub held_tell_blocks_in_use : (v : Volume) (at : ℕ → List ℕ) → failing v ≡ [] → AgreesOnHeld v at → blocks_in_use (over v at) ≡ blocks_in_use v
unfolding blocks_in_use
held_tell_blocks_in_use v at none agrees =
    let indexes = directories_with_sound_index v in
    ap (λ bs. bs ++ flat_map (index_blocks (over v at)) (directories_with_sound_index (over v at))) (held_tell_metadata v at none agrees)
    ∙ ap (λ bs. metadata_blocks v ++ bs)
    (ap (flat_map (index_blocks (over v at))) (held_tell_sound_indexes v at none agrees)
    ∙ flat_map_agree (index_blocks (over v at)) (index_blocks v) indexes (λ d is. held_tell_index_blocks v at d none agrees (contains_filter (holds_index v) (indexed_directories v) d is).0))

block_bits_same : (v : Volume) (at : ℕ → List ℕ) → failing v ≡ [] → AgreesOnHeld v at → (g : Group) → at g.block ≡ v.at g.block
    → has_bits_of_blocks (over v at) g ≡ has_bits_of_blocks v g
unfolding has_bits_of_blocks
block_bits_same v at none agrees g same =
    let holds = λ (bytes used : List ℕ). is_bit_set_in 0x40 bytes 0 && list_all (λ k. beq (is_bit_set_in 0x40 bytes k) (among used (block_of_bit v g k))) (from_to 1 g.bits) in
    ap (λ bytes. holds bytes (blocks_in_use (over v at))) same ∙ ap (holds (v.at g.block)) (held_tell_blocks_in_use v at none agrees)

pub keeps_block_alloc_bit : (v : Volume) (at : ℕ → List ℕ) → failing v ≡ [] → AgreesOnHeld v at → faults (over v at) check.BlockAllocBit ≡ faults v check.BlockAllocBit
unfolding faults
keeps_block_alloc_bit v at none agrees =
    groups_same v at (λ g. are_metadata g.of.bit_use) (has_bits_of_blocks (over v at)) (has_bits_of_blocks v) none agrees (block_bits_same v at none agrees)

-- ---- clusters
cluster_bits_same : (v : Volume) (at : ℕ → List ℕ) → failing v ≡ [] → AgreesOnHeld v at → (g : Group) → at g.block ≡ v.at g.block
    → has_bits_of_claims (over v at) g ≡ has_bits_of_claims v g
unfolding has_bits_of_claims
cluster_bits_same v at none agrees g same =
    let holds = λ (bytes : List ℕ) (claims : List Claim). list_all (λ k. beq (is_bit_set_in 0x40 bytes k) (is_claimed claims (cluster_of_bit v g k))) (range_with_len 0 g.bits) in
    ap (λ bytes. holds bytes (claims_of (over v at))) same ∙ ap (holds (v.at g.block)) (held_tell_claims v at none agrees)

pub keeps_cluster_alloc_bit : (v : Volume) (at : ℕ → List ℕ) → failing v ≡ [] → AgreesOnHeld v at → faults (over v at) check.ClusterAllocBit ≡ faults v check.ClusterAllocBit
unfolding faults
keeps_cluster_alloc_bit v at none agrees =
    groups_same v at is_of_clusters (has_bits_of_claims (over v at)) (has_bits_of_claims v) none agrees (cluster_bits_same v at none agrees)
