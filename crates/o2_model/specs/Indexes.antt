-- The indexes of directories: their blocks and their entries.
use Rattle.std.specs.Prelude.{ℕ, ◌+◌, ◌-◌, ◌/◌, Bool, ◌&&◌, not, ◌==◌, nat_le, List, ◌∷◌, flat_map, filter, drop, if◌then◌else◌}
use Rattle.o2_ondisk.specs.Bits.{has_bits, indexed_dir_dyn_feature, inline_index_flag}
use Rattle.o2_ondisk.specs.DxRoots.{dx_root_of, dx_root_list_place, dx_root_records_place}
use Rattle.o2_ondisk.specs.DxLeaves.{dx_leaf_of}
use Rattle.o2_ondisk.specs.DxListHeaders.{dx_list_header_of}
use Rattle.o2_ondisk.specs.DxEntries.{dx_entry_of}
use Rattle.o2_ondisk.specs.Signatures.{dx_root_signature, dx_leaf_signature}
use Rattle.o2_ondisk.specs.declared.dx_root.DxRoot.{DxRoot}
use Rattle.o2_ondisk.specs.declared.dx_leaf.DxLeaf.{DxLeaf}
use Rattle.o2_ondisk.specs.declared.dx_list_header.DxListHeader.{DxListHeader}
use Rattle.o2_ondisk.specs.declared.dx_entry.DxEntry.{DxEntry}
use Rattle.o2_model.specs.Words.{table}
use Rattle.o2_model.specs.Volume.{Volume, block_size, is_in_range, dinode}
use Rattle.o2_model.specs.Extents.{Extents, nothing_read, read_list}
use Rattle.o2_model.specs.Extents.LeafRule.{ToClusters}
use Rattle.o2_model.specs.Inodes.{is_directory}
use Rattle.o2_model.specs.Groups.{inodes_of}
use Rattle.o2_model.specs.LeafRecords.{clusters_under, blocks_under}

-- ---- the blocks of an index
-- a directory with `OCFS2_INDEXED_DIR_FL` of i_dyn_features
unfoldable pub is_indexed : Volume → ℕ → Bool
is_indexed v d = is_directory v d && has_bits (dinode v d).dyn_features.0 indexed_dir_dyn_feature

-- the directories with an index, rising
unfoldable pub indexed_directories : Volume → List ℕ
indexed_directories v = filter (is_indexed v) (inodes_of v)

-- the block of the index root
abbrev pub index_root : Volume → ℕ → ℕ
index_root v d = (dinode v d).dx_root

-- what the block says as an index root (struct ocfs2_dx_root_block)
abbrev pub dx_root : Volume → ℕ → DxRoot
dx_root v b = dx_root_of (v.at b)

-- it is an index root of this volume, of its own number and of this directory
unfoldable pub is_index_root : Volume → ℕ → ℕ → Bool
is_index_root v d b =
    is_in_range v b
    && (dx_root v b).signature.0 == dx_root_signature
    && (dx_root v b).blkno == b
    && (dx_root v b).fs_generation == v.geo.generation
    && (dx_root v b).dir_blkno == d

-- `OCFS2_DX_FLAG_INLINE` of dr_flags: the index entries stand in the root
abbrev pub is_inline_index : Volume → ℕ → Bool
is_inline_index v b = has_bits (dx_root v b).flags inline_index_flag

-- what is read of the list in the root (ocfs2_extent_recs_per_dx_root), where there is one
unfoldable pub index_extents : Volume → ℕ → Extents
index_extents v d =
    let root = index_root v d in
    if is_index_root v d root && not (is_inline_index v root)
    then read_list v (ToClusters 3) root dx_root_list_place ((block_size v - dx_root_records_place) / 16)
    else nothing_read

-- the blocks that the index has of an extent_alloc: its root and the extent blocks of its list
unfoldable pub index_blocks : Volume → ℕ → List ℕ
index_blocks v d = index_root v d ∷ (index_extents v d).blocks

-- those of all indexes, sound or not
unfoldable pub all_index_blocks : Volume → List ℕ
all_index_blocks v = flat_map (index_blocks v) (indexed_directories v)

-- the clusters that hold its leaves
unfoldable pub index_clusters : Volume → ℕ → List ℕ
index_clusters v d = flat_map (clusters_under v) (index_extents v d).leaves

-- its leaves, a block each
abbrev pub index_leaves : Volume → ℕ → List ℕ
index_leaves v d = flat_map (blocks_under v) (index_extents v d).leaves

-- ---- its entries
-- what the block says as a leaf of an index (struct ocfs2_dx_leaf)
abbrev pub dx_leaf : Volume → ℕ → DxLeaf
dx_leaf v b = dx_leaf_of (v.at b)

-- the header of a list of index entries at byte `at` of a block
abbrev pub dx_list_header : Volume → ℕ → ℕ → DxListHeader
dx_list_header v at b = dx_list_header_of (drop at (v.at b))

-- de_num_used fits de_count, and de_count the room behind the header
abbrev pub is_sound_dx_list : Volume → ℕ → ℕ → Bool
is_sound_dx_list v at b =
    nat_le (dx_list_header v at b).num_used (dx_list_header v at b).count
    && nat_le (dx_list_header v at b).count ((block_size v - (at + 0x8)) / 16)

abbrev pub dx_entries_at : Volume → ℕ → ℕ → List DxEntry
dx_entries_at v at b = table dx_entry_of 16 (at + 0x8) (dx_list_header v at b).num_used (v.at b)

-- a leaf of this volume and of its own number, with a sound list
unfoldable pub is_sound_index_leaf : Volume → ℕ → Bool
is_sound_index_leaf v b =
    (dx_leaf v b).signature.0 == dx_leaf_signature
    && (dx_leaf v b).blkno == b
    && (dx_leaf v b).fs_generation == v.geo.generation
    && is_sound_dx_list v 0x28 b

-- the index entries of a directory
unfoldable pub index_entries : Volume → ℕ → List DxEntry
index_entries v d =
    if is_inline_index v (index_root v d)
    then dx_entries_at v dx_root_list_place (index_root v d)
    else flat_map (dx_entries_at v 0x28) (index_leaves v d)
