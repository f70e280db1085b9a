-- What a dinode says of its inode: the kind, where its data is, and its extents.
use Rattle.std.specs.Prelude.{ℕ, ◌+◌, ◌-◌, ◌/◌, Bool, true, false, ◌&&◌, not, ◌==◌, List, [], ◌∷◌, flat_map, Option, Some, if◌then◌else◌}
use Rattle.o2_ondisk.specs.Bits.{has_bits, inline_data_dyn_feature, local_alloc_inode_flag, chain_inode_flag, dealloc_inode_flag, unwritten_extent_flag, refcounted_extent_flag}
use Rattle.o2_ondisk.specs.Dinodes.{last_part_place, list_records_place}
use Rattle.o2_ondisk.specs.Kinds.{kind_of_mode}
use Rattle.o2_ondisk.specs.declared.dinode.Dinode.{Dinode}
use Rattle.o2_ondisk.specs.declared.kind.Kind.{Kind}
use Rattle.o2_ondisk.specs.declared.kind.Kind.TheVariants.{File, Directory, Character, Block, Fifo, Socket, Link}
use Rattle.o2_model.specs.declared.leaf.Leaf.{Leaf}
use Rattle.o2_model.specs.Volume.{Volume, block_size, dinode}
use Rattle.o2_model.specs.Extents.{Extents, nothing_read, read_list}
use Rattle.o2_model.specs.Extents.LeafRule.{ToClusters}

-- ---- kinds
-- the kind that i_mode says, if it is one of the seven
abbrev pub kind : Volume → ℕ → Option Kind
kind v b = kind_of_mode (dinode v b).mode

abbrev pub is_directory_kind : Option Kind → Bool
is_directory_kind (Some Directory) = true
is_directory_kind _ = false

unfoldable pub is_directory : Volume → ℕ → Bool
is_directory v b = is_directory_kind (kind v b)

abbrev pub is_file_kind : Option Kind → Bool
is_file_kind (Some File) = true
is_file_kind _ = false

unfoldable pub is_file : Volume → ℕ → Bool
is_file v b = is_file_kind (kind v b)

abbrev pub is_link_kind : Option Kind → Bool
is_link_kind (Some Link) = true
is_link_kind _ = false

unfoldable pub is_link : Volume → ℕ → Bool
is_link v b = is_link_kind (kind v b)

-- ---- where the data is
-- the data stands in the dinode (id2.i_data of struct ocfs2_dinode)
abbrev pub is_inline : Volume → ℕ → Bool
is_inline v b = has_bits (dinode v b).dyn_features.0 inline_data_dyn_feature

-- a symbolic link whose text stands in the dinode in place of a list (id2.i_symlink of struct ocfs2_dinode)
abbrev pub has_fast_text : Dinode → Bool
has_fast_text d = is_link_kind (kind_of_mode d.mode) && d.clusters == 0

abbrev pub is_fast_link : Volume → ℕ → Bool
is_fast_link v b = has_fast_text (dinode v b)

-- `OCFS2_LOCAL_ALLOC_FL`, `OCFS2_CHAIN_FL` and `OCFS2_DEALLOC_FL` of i_flags: something else stands in the list's place
abbrev pub no_list_flags : ℕ
no_list_flags = local_alloc_inode_flag + chain_inode_flag + dealloc_inode_flag

-- devices, fifos and sockets have no data
abbrev pub has_data : Option Kind → Bool
has_data (Some Character) = false
has_data (Some Block) = false
has_data (Some Fifo) = false
has_data (Some Socket) = false
has_data _ = true

-- the dinode has an extent list (id2.i_list of struct ocfs2_dinode)
unfoldable pub holds_list : Dinode → Bool
holds_list d =
    has_data (kind_of_mode d.mode)
    && not (has_fast_text d)
    && not (has_bits d.dyn_features.0 inline_data_dyn_feature)
    && not (has_bits d.flags.0 no_list_flags)

abbrev pub has_list : Volume → ℕ → Bool
has_list v b = holds_list (dinode v b)

-- ---- extents
-- at most this many records fit a dinode (ocfs2_extent_recs_per_inode)
abbrev pub most_in_dinode : Volume → ℕ
most_in_dinode v = (block_size v - list_records_place) / 16

-- the greatest e_flags of its leaf records: UNWRITTEN and REFCOUNTED, and no clusters of a directory are shared
abbrev pub most_flags : Volume → ℕ → ℕ
most_flags v b = if is_directory v b then unwritten_extent_flag else unwritten_extent_flag + refcounted_extent_flag

-- what is read of the dinode's own list
unfoldable pub extents : Volume → ℕ → Extents
extents v b = if has_list v b then read_list v (ToClusters (most_flags v b)) b last_part_place (most_in_dinode v) else nothing_read

-- the leaf records of the dinode's own list, without those of 0 clusters
abbrev pub leaf_records : Volume → ℕ → List Leaf
leaf_records v b = (extents v b).leaves

-- All extent lists of an inode, each as it is read: its own, where it has one. Whatever speaks of an inode's lists does so
-- through this word.
unfoldable pub extent_lists_of : Volume → ℕ → List Extents
extent_lists_of v b = if has_list v b then extents v b ∷ [] else []

-- the leaf records of all of them, list by list
abbrev pub records_of : Volume → ℕ → List Leaf
records_of v b = flat_map (λ t. t.leaves) (extent_lists_of v b)

-- the extent blocks of all of them
abbrev pub extent_blocks_of : Volume → ℕ → List ℕ
extent_blocks_of v b = flat_map (λ t. t.blocks) (extent_lists_of v b)
