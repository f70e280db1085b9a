-- The allocators of a volume, and their chains.
use Rattle.std.specs.Prelude.{ℕ, ◌*◌, ◌-◌, ◌/◌, ◌%◌, ◌^◌, Bool, true, false, ◌&&◌, ◌==◌, nat_le, List, [], ◌∷◌, ◌++◌, map, flat_map, drop, if◌then◌else◌}
use Rattle.std.specs.Option.{option_map_or}
use Rattle.o2_ondisk.specs.Bits.{has_bits, chain_inode_flag}
use Rattle.o2_ondisk.specs.ChainListHeaders.{chain_list_header_of}
use Rattle.o2_ondisk.specs.ChainRecs.{chain_rec_of}
use Rattle.o2_ondisk.specs.Dinodes.{last_part_place, list_records_place}
use Rattle.o2_ondisk.specs.declared.chain_list_header.ChainListHeader.{ChainListHeader}
use Rattle.o2_ondisk.specs.declared.chain_rec.ChainRec.{ChainRec}
use Rattle.o2_ondisk.specs.declared.role_data.RoleData.{RoleData}
use Rattle.o2_model.specs.declared.allocator.Allocator.{Allocator}
use Rattle.o2_model.specs.declared.allocator.BitUse.{BitUse}
use Rattle.o2_model.specs.declared.allocator.BitUse.TheVariants.{Clusters, Inodes, Metadata}
use Rattle.o2_model.specs.declared.system_file.SlotFile.TheVariants.{ExtentAlloc, InodeAlloc}
use Rattle.o2_model.specs.declared.system_file.SystemFile.{SystemFile}
use Rattle.o2_model.specs.declared.system_file.SystemFile.TheVariants.{GlobalInodeAlloc, GlobalBitmap, OfSlot}
use Rattle.o2_model.specs.Words.{table}
use Rattle.o2_model.specs.Volume.{Volume, block_size, per_cluster, dinode, is_valid}
use Rattle.o2_model.specs.ClusterGroups.{group_size}
use Rattle.o2_model.specs.SystemFiles.{system_inode, slots}

-- ---- which there are
abbrev pub are_clusters : BitUse → Bool
are_clusters Clusters = true
are_clusters _ = false

abbrev pub are_inodes : BitUse → Bool
are_inodes Inodes = true
are_inodes _ = false

abbrev pub are_metadata : BitUse → Bool
are_metadata Metadata = true
are_metadata _ = false

-- the slot of an allocator that is of none (OCFS2_INVALID_SLOT)
abbrev pub no_slot : ℕ
no_slot = 0xffff

-- a valid dinode with chains
unfoldable pub is_allocator : Volume → ℕ → Bool
is_allocator v b = is_valid v b && has_bits (dinode v b).flags.0 chain_inode_flag

-- the allocator whose dinode is in that block, if there is one
abbrev pub allocator_if : Volume → BitUse → ℕ → ℕ → List Allocator
allocator_if v bit_use slot b = if is_allocator v b then record { bit_use = bit_use; slot = slot; block = b } ∷ [] else []

-- the allocator of that name, where there is one
abbrev pub allocator_named : Volume → BitUse → ℕ → SystemFile → List Allocator
allocator_named v bit_use slot file = option_map_or (allocator_if v bit_use slot) (system_inode v file) []

abbrev pub slot_allocators : Volume → ℕ → List Allocator
slot_allocators v slot =
    allocator_named v Metadata slot (OfSlot ExtentAlloc slot)
    ++ allocator_named v Inodes slot (OfSlot InodeAlloc slot)

-- in their order: the global bitmap, global_inode_alloc, and each slot's extent_alloc and inode_alloc
unfoldable pub allocators : Volume → List Allocator
allocators v =
    allocator_named v Clusters no_slot GlobalBitmap
    ++ allocator_named v Inodes no_slot GlobalInodeAlloc
    ++ flat_map (slot_allocators v) (slots v)

-- ---- their chains
-- the header of an allocator's chain list (id2.i_chain of struct ocfs2_dinode)
abbrev pub chain_list_header : Volume → ℕ → ChainListHeader
chain_list_header v b = chain_list_header_of (drop last_part_place (v.at b))

-- at most this many chain records fit a dinode (ocfs2_chain_recs_per_inode)
abbrev pub most_chains : Volume → ℕ
most_chains v = (block_size v - list_records_place) / 16

-- a bit of the bitmap is a cluster, and a group of it has as many as fit; elsewhere a bit is a block, and a group has two or more
abbrev pub is_sound_chain_size : Volume → BitUse → ChainListHeader → Bool
is_sound_chain_size v Clusters h = h.bpc == 1 && h.cpg == group_size v
is_sound_chain_size v _ h = h.bpc == per_cluster v && nat_le 2 (h.cpg * per_cluster v)

-- the header of an allocator's chain list fits the volume and the dinode
unfoldable pub is_sound_chain_header : Volume → Allocator → Bool
is_sound_chain_header v a =
    is_sound_chain_size v a.bit_use (chain_list_header v a.block)
    && nat_le 1 (chain_list_header v a.block).count
    && nat_le (chain_list_header v a.block).count (most_chains v)
    && nat_le (chain_list_header v a.block).next_free_rec (chain_list_header v a.block).count

-- its chain records in use; one with an unsound header has none
unfoldable pub chains : Volume → Allocator → List ChainRec
chains v a =
    if is_sound_chain_header v a
    then table chain_rec_of 16 list_records_place (chain_list_header v a.block).next_free_rec (v.at a.block)
    else []

-- the blocks of the groups at which its chains begin
unfoldable pub chain_heads : Volume → Allocator → List ℕ
chain_heads v a = map (λ r. r.blkno) (chains v a)

-- ---- totals of an allocator or a window
-- i_used and i_total of id1.bitmap1 of struct ocfs2_dinode
abbrev pub used_of : RoleData → ℕ
used_of d = d.0 % 2 ^ 32

abbrev pub total_of : RoleData → ℕ
total_of d = d.0 / 2 ^ 32
