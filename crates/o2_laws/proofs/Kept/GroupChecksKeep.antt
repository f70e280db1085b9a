-- Where nothing fails, blocks that agree on the held ones have the same allocators, and the checks of allocators, groups and bits
-- fail where they fail on the volume.
use Rattle.std.proofs.Common.{◌≡◌, ℕ, ◌%◌, ◌^◌, Bool, not, ◌&&◌, ◌||◌, ◌==◌, List, [], map, refl, ◌∙◌, ap}
use Rattle.std.specs.Prelude.{filter, flat_map, sum_by}
use Rattle.std.specs.List.{Contains, list_all, enumerate_from}
use Rattle.std.proofs.lemmas.Bool.{eq-eqb}
use Rattle.o2_model.specs.declared.check.Check.TheVariants as check
use Rattle.o2_model.specs.declared.allocator.Allocator.{Allocator}
use Rattle.o2_model.specs.declared.allocator.Group.{Group}
use Rattle.o2_ondisk.specs.GroupDescs.{group_desc_of}
use Rattle.o2_ondisk.specs.declared.chain_rec.ChainRec.{ChainRec}
use Rattle.o2_model.specs.Words.{among}
use Rattle.o2_model.specs.Faults.{those_not, fails_at}
use Rattle.o2_model.specs.Orders.{from_to}
use Rattle.o2_model.specs.Volume.{Volume, over}
use Rattle.o2_model.specs.Allocators.{are_inodes, allocators, is_sound_chain_header, chains}
use Rattle.o2_model.specs.Groups.{group_desc, is_bit_set_in, is_bit_set, block_of_bit, is_of_clusters, is_inode, inodes_of, groups, groups_of}
use Rattle.o2_model.specs.Metadata.{has_origin}
use Rattle.o2_model.specs.Checks.GroupMissing.{bitmap_places}
use Rattle.o2_model.specs.Checks.InodeAllocBit.{has_inodes_at_bits}
use Rattle.o2_model.specs.Checks.InodeSuballoc.{inode_suballoc_faults}
use Rattle.o2_model.specs.Checks.GroupFreeBits.{has_free_bits}
use Rattle.o2_model.specs.Checks.ChainBits.{groups_in_chain, has_sums, has_sums_in_chains}
use Rattle.o2_model.specs.Checks.AllocTotals.{has_totals}
use Rattle.o2_model.specs.Failing.{faults, failing}
use Rattle.o2_laws.proofs.Held.HeldBlocks.{AgreesOnHeld}
use Rattle.o2_laws.proofs.SameAllocators.{allocators_same}
use Rattle.o2_laws.proofs.Agreeing.{all_agree, sum_by_agree, fails_agree, flat_map_agree}
use Rattle.o2_laws.proofs.Found.{found}
use Rattle.o2_laws.proofs.Members.{contains_filter}
use Rattle.o2_laws.proofs.Held.GroupsHeld.{descriptor_held}
use Rattle.o2_laws.proofs.Held.HeldTells.{dinode_same, listed_is_inode}
use Rattle.o2_laws.proofs.Kept.MetadataKeeps.{held_tell_group_with_bit}
use Rattle.o2_laws.proofs.Held.HeldTables.{allocator_is_inode, held_tell_system_files, held_tell_groups, held_tell_inode, held_tell_inodes}

-- ---- allocators
pub held_tell_allocators : (v : Volume) (at : ℕ → List ℕ) → failing v ≡ [] → AgreesOnHeld v at → allocators (over v at) ≡ allocators v
held_tell_allocators v at none agrees = allocators_same v at (held_tell_system_files v at none agrees)

-- its dinode has the same bytes
allocator_dinode : (v : Volume) (at : ℕ → List ℕ) (a : Allocator) → failing v ≡ [] → AgreesOnHeld v at → Contains (allocators v) a → at a.block ≡ v.at a.block
allocator_dinode v at a none agrees is =
    dinode_same v at a.block agrees (allocator_is_inode v a.block none (found (λ x. a.block == x.block) (allocators v) a is (eq-eqb a.block a.block refl)))

-- a group's descriptor has the same bytes
descriptor_same : (v : Volume) (at : ℕ → List ℕ) (g : Group) → AgreesOnHeld v at → Contains (groups v) g → at g.block ≡ v.at g.block
descriptor_same v at g agrees is = agrees.same g.block (descriptor_held v g is)

header_same : (v : Volume) (at : ℕ → List ℕ) (a : Allocator) → at a.block ≡ v.at a.block → is_sound_chain_header (over v at) a ≡ is_sound_chain_header v a
unfolding is_sound_chain_header
header_same v at a same = rw same refl

-- of allocators: a check that judges each the same fails at the same ones
each_allocator : (v : Volume) (at : ℕ → List ℕ) (holds : Volume → Allocator → Bool) → failing v ≡ [] → AgreesOnHeld v at
    → ((a : Allocator) → at a.block ≡ v.at a.block → holds (over v at) a ≡ holds v a)
    → fails_at (λ a. a.block) (holds (over v at)) (allocators (over v at)) ≡ fails_at (λ a. a.block) (holds v) (allocators v)
each_allocator v at holds none agrees same =
    ap (fails_at (λ a. a.block) (holds (over v at))) (held_tell_allocators v at none agrees)
    ∙ fails_agree (λ a. a.block) (holds (over v at)) (holds v) (allocators v) (λ a is. same a (allocator_dinode v at a none agrees is))

pub keeps_chain_header : (v : Volume) (at : ℕ → List ℕ) → failing v ≡ [] → AgreesOnHeld v at → faults (over v at) check.ChainHeader ≡ faults v check.ChainHeader
unfolding faults
keeps_chain_header v at none agrees = each_allocator v at is_sound_chain_header none agrees (header_same v at)

pub keeps_chain_link : (v : Volume) (at : ℕ → List ℕ) → failing v ≡ [] → AgreesOnHeld v at → faults (over v at) check.ChainLink ≡ faults v check.ChainLink
unfolding faults
keeps_chain_link v at none agrees = ap (λ w. w.faults) (held_tell_groups v at none agrees)

pub keeps_group_missing : (v : Volume) (at : ℕ → List ℕ) → failing v ≡ [] → AgreesOnHeld v at → faults (over v at) check.GroupMissing ≡ faults v check.GroupMissing
unfolding faults
keeps_group_missing v at none agrees =
    ap (λ w. those_not (λ b. among (map (λ g. g.block) (filter is_of_clusters w.groups)) b) (bitmap_places v)) (held_tell_groups v at none agrees)

-- ---- groups
-- of groups: a check that judges each the same fails at the same ones
each_group : (v : Volume) (at : ℕ → List ℕ) (holds : Volume → Group → Bool) → failing v ≡ [] → AgreesOnHeld v at
    → ((g : Group) → at g.block ≡ v.at g.block → holds (over v at) g ≡ holds v g)
    → fails_at (λ g. g.block) (holds (over v at)) (groups (over v at)) ≡ fails_at (λ g. g.block) (holds v) (groups v)
each_group v at holds none agrees same =
    ap (λ w. fails_at (λ g. g.block) (holds (over v at)) w.groups) (held_tell_groups v at none agrees)
    ∙ fails_agree (λ g. g.block) (holds (over v at)) (holds v) (groups v) (λ g is. same g (descriptor_same v at g agrees is))

pub keeps_group_chain : (v : Volume) (at : ℕ → List ℕ) → failing v ≡ [] → AgreesOnHeld v at → faults (over v at) check.GroupChain ≡ faults v check.GroupChain
unfolding faults
keeps_group_chain v at none agrees = each_group v at (λ u g. (group_desc u g.block).chain == g.chain) none agrees (λ g same. rw same refl)

free_bits_same : (v : Volume) (at : ℕ → List ℕ) (g : Group) → at g.block ≡ v.at g.block → has_free_bits (over v at) g ≡ has_free_bits v g
unfolding has_free_bits
free_bits_same v at g same = rw same refl

pub keeps_group_free_bits : (v : Volume) (at : ℕ → List ℕ) → failing v ≡ [] → AgreesOnHeld v at → faults (over v at) check.GroupFreeBits ≡ faults v check.GroupFreeBits
unfolding faults
keeps_group_free_bits v at none agrees = each_group v at has_free_bits none agrees (free_bits_same v at)

-- ---- sums over groups
chains_same : (v : Volume) (at : ℕ → List ℕ) (a : Allocator) → at a.block ≡ v.at a.block → chains (over v at) a ≡ chains v a
unfolding chains
chains_same v at a same = rw (header_same v at a same, same) refl

totals_same : (v : Volume) (at : ℕ → List ℕ) (a : Allocator) → at a.block ≡ v.at a.block → has_totals (over v at) a ≡ has_totals v a
unfolding has_totals
totals_same v at a same = rw (chains_same v at a same, same) refl

pub keeps_alloc_totals : (v : Volume) (at : ℕ → List ℕ) → failing v ≡ [] → AgreesOnHeld v at → faults (over v at) check.AllocTotals ≡ faults v check.AllocTotals
unfolding faults
keeps_alloc_totals v at none agrees = each_allocator v at has_totals none agrees (totals_same v at)

-- the chain's groups have the same sum
free_sum_same : (v : Volume) (at : ℕ → List ℕ) (a : Allocator) (chain : ℕ) → failing v ≡ [] → AgreesOnHeld v at
    → sum_by (λ g. (group_desc (over v at) g.block).free_bits_count) (groups_in_chain v a chain) ≡ sum_by (λ g. (group_desc v g.block).free_bits_count) (groups_in_chain v a chain)
free_sum_same v at a chain none agrees =
    sum_by_agree (λ g. (group_desc (over v at) g.block).free_bits_count) (λ g. (group_desc v g.block).free_bits_count) (groups_in_chain v a chain) (λ g is.
    let of_allocator = (contains_filter (λ g. g.chain == chain) (groups_of v a.block) g is).0 in
    let inside = (contains_filter (λ g. g.of.block == a.block) (groups v) g of_allocator).0 in
    ap (λ bytes. (group_desc_of bytes).free_bits_count) (descriptor_same v at g agrees inside))

-- the sums that a chain record is to have
abbrev sums_are : List Group → ℕ → ChainRec → Bool
sums_are gs free r = r.free == free % 2 ^ 32 && r.total == sum_by (λ g. g.bits) gs % 2 ^ 32

sums_same : (v : Volume) (at : ℕ → List ℕ) (a : Allocator) (chain : ℕ) (r : ChainRec) → failing v ≡ [] → AgreesOnHeld v at → has_sums (over v at) a chain r ≡ has_sums v a chain r
sums_same v at a chain r none agrees =
    ap (λ w. let gs = filter (λ g. g.chain == chain) (filter (λ g. g.of.block == a.block) w.groups) in
    sums_are gs (sum_by (λ g. (group_desc (over v at) g.block).free_bits_count) gs) r) (held_tell_groups v at none agrees)
    ∙ ap (λ n. sums_are (groups_in_chain v a chain) n r) (free_sum_same v at a chain none agrees)

-- those of each chain of an allocator
chain_sums_same : (v : Volume) (at : ℕ → List ℕ) (a : Allocator) → failing v ≡ [] → AgreesOnHeld v at → at a.block ≡ v.at a.block → has_sums_in_chains (over v at) a ≡ has_sums_in_chains v a
unfolding has_sums_in_chains
chain_sums_same v at a none agrees same =
    ap (λ rs. list_all (λ c. has_sums (over v at) a c.0 c.1) (enumerate_from 0 rs)) (chains_same v at a same)
    ∙ all_agree (λ c. has_sums (over v at) a c.0 c.1) (λ c. has_sums v a c.0 c.1) (enumerate_from 0 (chains v a)) (λ c is. sums_same v at a c.0 c.1 none agrees)

pub keeps_chain_bits : (v : Volume) (at : ℕ → List ℕ) → failing v ≡ [] → AgreesOnHeld v at → faults (over v at) check.ChainBits ≡ faults v check.ChainBits
unfolding faults
keeps_chain_bits v at none agrees = each_allocator v at has_sums_in_chains none agrees (λ a same. chain_sums_same v at a none agrees same)

-- ---- inodes on bits
inodes_at_bits_same : (v : Volume) (at : ℕ → List ℕ) (g : Group) → failing v ≡ [] → AgreesOnHeld v at → at g.block ≡ v.at g.block → has_inodes_at_bits (over v at) g ≡ has_inodes_at_bits v g
unfolding has_inodes_at_bits
inodes_at_bits_same v at g none agrees same =
    ap (λ bytes. is_bit_set_in 0x40 bytes 0 && list_all (λ k. not (is_bit_set_in 0x40 bytes k) || is_inode (over v at) (block_of_bit v g k)) (from_to 1 g.bits)) same
    ∙ ap (λ b. is_bit_set v g.block 0 && b) (all_agree
    (λ k. not (is_bit_set v g.block k) || is_inode (over v at) (block_of_bit v g k))
    (λ k. not (is_bit_set v g.block k) || is_inode v (block_of_bit v g k)) (from_to 1 g.bits)
    (λ k is. ap (λ b. not (is_bit_set v g.block k) || b) (held_tell_inode v at (block_of_bit v g k) none agrees)))

pub keeps_inode_alloc_bit : (v : Volume) (at : ℕ → List ℕ) → failing v ≡ [] → AgreesOnHeld v at → faults (over v at) check.InodeAllocBit ≡ faults v check.InodeAllocBit
unfolding faults
keeps_inode_alloc_bit v at none agrees =
    let of_inodes = λ (gs : List Group). filter (λ g. are_inodes g.of.bit_use) gs in
    ap (λ w. fails_at (λ g. g.block) (has_inodes_at_bits (over v at)) (of_inodes w.groups)) (held_tell_groups v at none agrees)
    ∙ fails_agree (λ g. g.block) (has_inodes_at_bits (over v at)) (has_inodes_at_bits v) (of_inodes (groups v)) (λ g is.
    inodes_at_bits_same v at g none agrees (descriptor_same v at g agrees (contains_filter (λ g. are_inodes g.of.bit_use) (groups v) g is).0))

-- ---- where inodes are from
origin_same : (v : Volume) (at : ℕ → List ℕ) (b : ℕ) → failing v ≡ [] → AgreesOnHeld v at → at b ≡ v.at b → inode_suballoc_faults (over v at) b ≡ inode_suballoc_faults v b
unfolding has_origin
origin_same v at b none agrees same = rw (held_tell_group_with_bit v at are_inodes b none agrees, same) refl

pub keeps_inode_suballoc : (v : Volume) (at : ℕ → List ℕ) → failing v ≡ [] → AgreesOnHeld v at → faults (over v at) check.InodeSuballoc ≡ faults v check.InodeSuballoc
unfolding faults
keeps_inode_suballoc v at none agrees =
    ap (flat_map (inode_suballoc_faults (over v at))) (held_tell_inodes v at none agrees)
    ∙ flat_map_agree (inode_suballoc_faults (over v at)) (inode_suballoc_faults v) (inodes_of v) (λ b is. origin_same v at b none agrees (dinode_same v at b agrees (listed_is_inode v b is)))
