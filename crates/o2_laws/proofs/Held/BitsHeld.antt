-- What stands on a bit of a group of blocks is held: inodes, extent blocks and refcount blocks.
use Rattle.std.proofs.Common.{◌≡◌, ℕ, ◌+◌, Bool, true, false, ◌&&◌, ◌==◌, [], refl, subst, arith, Option, Some, None}
use Rattle.std.specs.Prelude.{find, nat_lt}
use Rattle.std.specs.List.{Contains, range_with_len}
use Rattle.std.specs.Option.{option_map_or}
use Rattle.std.proofs.lemmas.Bool.{and_parts, eqb-true, false≢true}
use Rattle.o2_model.specs.declared.allocator.BitUse.{BitUse}
use Rattle.o2_model.specs.declared.allocator.BitUse.TheVariants.{Clusters, Inodes, Metadata}
use Rattle.o2_model.specs.declared.allocator.Group.{Group}
use Rattle.o2_model.specs.Words.{among}
use Rattle.o2_model.specs.Volume.{Volume, is_valid}
use Rattle.o2_model.specs.Allocators.{are_clusters, are_inodes, are_metadata}
use Rattle.o2_model.specs.Groups.{block_of_bit, bit_of_block, is_bit_set, is_of_clusters, is_on_set_bit, is_inode, groups, has_inode_bit}
use Rattle.o2_model.specs.Metadata.{is_on_bit, group_with_bit, is_on_metadata_bit, metadata_blocks}
use Rattle.o2_model.specs.Checks.MetaBlock.{is_sound_metadata_block, meta_block_faults}
use Rattle.o2_model.specs.Files.{times_in}
use Rattle.o2_laws.proofs.Held.HeldBlocks.{is_held}
use Rattle.o2_laws.proofs.Failing.{none_fails}
use Rattle.o2_laws.proofs.Found.{passing, find_passing, range_bounds, each_of}
use Rattle.o2_laws.proofs.Held.GroupsHeld.{group_blocks_held}

-- ---- on a bit
-- what has a test is some
pub when_some : {A : Type 0} (P : Type 0) (test : A → Bool) (o : Option A) → ((x : A) → o ≡ Some x → P) → option_map_or test o false ≡ true → P
when_some P test None some h = absurd (false≢true h)
when_some P test (Some x) some h = some x refl

-- the block of a bit is one of the group's
bit_held : (v : Volume) (g : Group) (b k : ℕ) → Contains (groups v) g → is_of_clusters g ≡ false → bit_of_block v g b ≡ Some k → is_held v b ≡ true
bit_held v g b k is of_blocks at =
    let bit = find_passing (λ k. block_of_bit v g k == b) (range_with_len 0 g.bits) k at in
    let within = range_bounds 0 g.bits k bit.0 in
    subst (λ x. is_held v x ≡ true) (eqb-true (g.block + k) b bit.1) (group_blocks_held v g k is of_blocks (omega (arith, within.1)))

-- groups of inodes and of metadata are groups of blocks
inodes_apart : (u : BitUse) → are_inodes u ≡ true → are_clusters u ≡ false
inodes_apart Clusters h = absurd (false≢true h)
inodes_apart Inodes h = refl
inodes_apart Metadata h = refl

metadata_apart : (u : BitUse) → are_metadata u ≡ true → are_clusters u ≡ false
metadata_apart Clusters h = absurd (false≢true h)
metadata_apart Inodes h = refl
metadata_apart Metadata h = refl

-- ---- inodes
pub inode_bit_held : (v : Volume) (b : ℕ) → has_inode_bit v b ≡ true → is_held v b ≡ true
inode_bit_held v b h =
    let at = passing (λ g. are_inodes g.of.bit_use && is_on_set_bit v b g) (groups v) h in
    let parts = and_parts (are_inodes at.item.of.bit_use) (is_on_set_bit v b at.item) at.passes in
    when_some (is_held v b ≡ true) (λ k. nat_lt 0 k && is_bit_set v at.item.block k) (bit_of_block v at.item b)
    (λ k is. bit_held v at.item b k at.inside (inodes_apart at.item.of.bit_use parts.0) is) parts.1

pub dinode_held : (v : Volume) (b : ℕ) → is_inode v b ≡ true → is_held v b ≡ true
unfolding is_inode
dinode_held v b h = inode_bit_held v b (and_parts (is_valid v b) (has_inode_bit v b) h).1

-- ---- extent blocks and refcount blocks
pub metadata_bit_held : (v : Volume) (b : ℕ) → is_on_metadata_bit v b ≡ true → is_held v b ≡ true
unfolding group_with_bit
metadata_bit_held v b h =
    when_some (is_held v b ≡ true) (λ g. true) (find (λ g. are_metadata g.of.bit_use && is_on_bit v b g) (groups v)) (λ g is.
    let at = find_passing (λ g. are_metadata g.of.bit_use && is_on_bit v b g) (groups v) g is in
    let parts = and_parts (are_metadata g.of.bit_use) (is_on_bit v b g) at.1 in
    when_some (is_held v b ≡ true) (λ k. nat_lt 0 k) (bit_of_block v g b) (λ k on. bit_held v g b k at.0 (metadata_apart g.of.bit_use parts.0) on) parts.1
    ) h

sound_held : (v : Volume) (b : ℕ) → is_sound_metadata_block v b ≡ true → is_held v b ≡ true
unfolding is_sound_metadata_block
sound_held v b h = metadata_bit_held v b (and_parts (is_on_metadata_bit v b) (times_in (metadata_blocks v) b == 1) h).0

-- where META_BLOCK holds
pub metadata_held : (v : Volume) (b : ℕ) → meta_block_faults v ≡ [] → among (metadata_blocks v) b ≡ true → is_held v b ≡ true
metadata_held v b none is =
    let all = none_fails (λ b. b) (is_sound_metadata_block v) (metadata_blocks v) none in
    let at = passing (λ m. b == m) (metadata_blocks v) is in
    subst (λ x. is_held v x ≡ true) (omega (arith, eqb-true b at.item at.passes)) (sound_held v at.item (each_of (λ b. is_sound_metadata_block v b ≡ true) (metadata_blocks v) at.item all at.inside))
