-- Where nothing fails, blocks that agree on the held ones have the same lists of inodes, the same extent blocks and refcount blocks, and the same groups that they are from.
use Rattle.std.proofs.Common.{◌≡◌, ℕ, Bool, true, false, ◌&&◌, List, [], refl, ◌∙◌, ap}
use Rattle.std.specs.Prelude.{find, flat_map}
use Rattle.std.specs.List.{Contains}
use Rattle.std.specs.Option.{option_map_or}
use Rattle.std.proofs.lemmas.List.Elements.{Contains-append_left}
use Rattle.o2_model.specs.declared.allocator.BitUse.{BitUse}
use Rattle.o2_model.specs.Volume.{Volume, over}
use Rattle.o2_model.specs.Inodes.{extent_lists_of, records_of, extent_blocks_of}
use Rattle.o2_model.specs.Allocators.{are_metadata}
use Rattle.o2_model.specs.Groups.{is_inode, inodes_of}
use Rattle.o2_model.specs.RefcountTrees.{refcount_roots, refcount_tree_blocks}
use Rattle.o2_model.specs.Metadata.{is_on_bit, group_with_bit, is_on_metadata_bit, is_origin, has_origin, list_blocks, refcount_blocks, metadata_blocks}
use Rattle.o2_model.specs.declared.origin.Origin.{Origin}
use Rattle.o2_model.specs.Failing.{failing}
use Rattle.o2_laws.proofs.Held.HeldBlocks.{is_held}
use Rattle.o2_laws.proofs.Held.HeldBlocks.{AgreesOnHeld}
use Rattle.o2_laws.proofs.Members.{contains_flat, contains_among}
use Rattle.o2_laws.proofs.Agreeing.{flat_map_agree}
use Rattle.o2_laws.proofs.Readings.{same_has_list}
use Rattle.o2_laws.proofs.Held.BitsHeld.{metadata_held}
use Rattle.o2_laws.proofs.Held.HeldTells.{metadata_holds, dinode_same, held_tell_extents, listed_is_inode}
use Rattle.o2_laws.proofs.Held.HeldTables.{held_tell_groups, held_tell_inodes}
use Rattle.o2_laws.proofs.Kept.RootsKeep.{held_tell_roots}
use Rattle.o2_laws.proofs.Kept.RefcountsKeep.{held_tell_tree_blocks}

-- ---- the lists of an inode
pub held_tell_lists : (v : Volume) (at : ℕ → List ℕ) (i : ℕ) → failing v ≡ [] → AgreesOnHeld v at → is_inode v i ≡ true → extent_lists_of (over v at) i ≡ extent_lists_of v i
unfolding extent_lists_of
held_tell_lists v at i none agrees is =
    rw (same_has_list v at i (dinode_same v at i agrees is), held_tell_extents v at i none agrees is) refl

pub held_tell_records : (v : Volume) (at : ℕ → List ℕ) (i : ℕ) → failing v ≡ [] → AgreesOnHeld v at → is_inode v i ≡ true → records_of (over v at) i ≡ records_of v i
held_tell_records v at i none agrees is = ap (flat_map (λ t. t.leaves)) (held_tell_lists v at i none agrees is)

pub held_tell_extent_blocks : (v : Volume) (at : ℕ → List ℕ) (i : ℕ) → failing v ≡ [] → AgreesOnHeld v at → is_inode v i ≡ true → extent_blocks_of (over v at) i ≡ extent_blocks_of v i
held_tell_extent_blocks v at i none agrees is = ap (flat_map (λ t. t.blocks)) (held_tell_lists v at i none agrees is)

-- ---- extent blocks and refcount blocks
pub held_tell_list_blocks : (v : Volume) (at : ℕ → List ℕ) → failing v ≡ [] → AgreesOnHeld v at → list_blocks (over v at) ≡ list_blocks v
unfolding list_blocks
held_tell_list_blocks v at none agrees =
    ap (flat_map (extent_blocks_of (over v at))) (held_tell_inodes v at none agrees)
    ∙ flat_map_agree (extent_blocks_of (over v at)) (extent_blocks_of v) (inodes_of v) (λ i is. held_tell_extent_blocks v at i none agrees (listed_is_inode v i is))

pub held_tell_refcount_blocks : (v : Volume) (at : ℕ → List ℕ) → failing v ≡ [] → AgreesOnHeld v at → refcount_blocks (over v at) ≡ refcount_blocks v
unfolding refcount_blocks
held_tell_refcount_blocks v at none agrees =
    ap (flat_map (refcount_tree_blocks (over v at))) (held_tell_roots v at none agrees)
    ∙ flat_map_agree (refcount_tree_blocks (over v at)) (refcount_tree_blocks v) (refcount_roots v) (λ root is. held_tell_tree_blocks v at root none agrees is)

pub held_tell_metadata : (v : Volume) (at : ℕ → List ℕ) → failing v ≡ [] → AgreesOnHeld v at → metadata_blocks (over v at) ≡ metadata_blocks v
unfolding metadata_blocks
held_tell_metadata v at none agrees = rw (held_tell_list_blocks v at none agrees, held_tell_refcount_blocks v at none agrees) refl

-- ---- those of inodes' lists are held
list_block_listed : (v : Volume) (b : ℕ) → Contains (list_blocks v) b → Contains (metadata_blocks v) b
unfolding metadata_blocks
list_block_listed v b is = Contains-append_left (list_blocks v) (refcount_blocks v) b is

pub listed_block_held : (v : Volume) (b : ℕ) → failing v ≡ [] → Contains (list_blocks v) b → is_held v b ≡ true
listed_block_held v b none is = metadata_held v b (metadata_holds v none) (contains_among (metadata_blocks v) b (list_block_listed v b is))

inode_block_listed : (v : Volume) (i b : ℕ) → Contains (inodes_of v) i → Contains (extent_blocks_of v i) b → Contains (list_blocks v) b
unfolding list_blocks
inode_block_listed v i b is inside = contains_flat (extent_blocks_of v) (inodes_of v) i b is inside

pub inode_block_held : (v : Volume) (i b : ℕ) → failing v ≡ [] → Contains (inodes_of v) i → Contains (extent_blocks_of v i) b → is_held v b ≡ true
inode_block_held v i b none is inside = listed_block_held v b none (inode_block_listed v i b is inside)

-- ---- where a block is from
pub held_tell_group_with_bit : (v : Volume) (at : ℕ → List ℕ) (is_use : BitUse → Bool) (b : ℕ) → failing v ≡ [] → AgreesOnHeld v at → group_with_bit (over v at) is_use b ≡ group_with_bit v is_use b
unfolding group_with_bit
held_tell_group_with_bit v at is_use b none agrees =
    ap (λ w. find (λ g. is_use g.of.bit_use && is_on_bit v b g) w.groups) (held_tell_groups v at none agrees)

pub held_tell_metadata_bit : (v : Volume) (at : ℕ → List ℕ) (b : ℕ) → failing v ≡ [] → AgreesOnHeld v at → is_on_metadata_bit (over v at) b ≡ is_on_metadata_bit v b
held_tell_metadata_bit v at b none agrees = ap (λ g. option_map_or (λ x. true) g false) (held_tell_group_with_bit v at are_metadata b none agrees)

pub held_tell_origin : (v : Volume) (at : ℕ → List ℕ) (is_use : BitUse → Bool) (o : Origin) (b : ℕ) → failing v ≡ [] → AgreesOnHeld v at → has_origin (over v at) is_use o b ≡ has_origin v is_use o b
unfolding has_origin
held_tell_origin v at is_use o b none agrees = ap (λ g. option_map_or (is_origin v o b) g true) (held_tell_group_with_bit v at is_use b none agrees)
