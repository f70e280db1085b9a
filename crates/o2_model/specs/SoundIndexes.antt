-- What is asked of the index of a directory.
use Rattle.std.specs.Prelude.{ℕ, ◌-◌, Bool, false, ◌&&◌, ◌==◌, nat_le, List, ◌++◌, filter, length, drop, count_by, if◌then◌else◌}
use Rattle.std.specs.List.{list_all}
use Rattle.o2_ondisk.specs.DirTrailers.{dir_trailer_of}
use Rattle.o2_ondisk.specs.DxRoots.{dx_root_list_place}
use Rattle.o2_ondisk.specs.Signatures.{dir_trailer_signature}
use Rattle.o2_ondisk.specs.declared.dx_entry.DxEntry.{DxEntry}
use Rattle.o2_model.specs.Orders.{is_none_of}
use Rattle.o2_model.specs.Volume.{Volume}
use Rattle.o2_model.specs.Inodes.{is_inline}
use Rattle.o2_model.specs.declared.entry.Entry.{Entry}
use Rattle.o2_model.specs.Directories.{DirBlock, dir_blocks, directory_entries, inline_bytes}
use Rattle.o2_model.specs.Allocators.{are_metadata}
use Rattle.o2_model.specs.Files.{times_in}
use Rattle.o2_model.specs.Metadata.{extent_block_origin, has_slot_and_bit, group_with_bit, metadata_blocks}
use Rattle.o2_model.specs.declared.origin.Origin.{Origin}
use Rattle.o2_ondisk.specs.declared.hash.NameHash.{NameHash}
use Rattle.o2_ondisk.specs.NameHashes.{name_hash, is_ascii_name}
use Rattle.std.specs.Option.{option_map_or}
use Rattle.o2_model.specs.Indexes.{index_root, dx_root, is_index_root, is_inline_index, index_extents, all_index_blocks, index_clusters, index_leaves, is_sound_dx_list, is_sound_index_leaf, index_entries}

-- the block is from an extent_alloc, with this slot and bit, and nothing else on the volume uses it
unfoldable pub is_own_block : Volume → Origin → ℕ → Bool
is_own_block v o b =
    option_map_or (has_slot_and_bit v o b) (group_with_bit v are_metadata b) false
    && times_in (metadata_blocks v ++ all_index_blocks v) b == 1

abbrev pub index_root_origin : Volume → ℕ → Origin
index_root_origin v b = record { slot = (dx_root v b).suballoc_slot; bit = (dx_root v b).suballoc_bit; loc = (dx_root v b).suballoc_loc }

-- its root is one, and its own
abbrev pub has_sound_index_root : Volume → ℕ → Bool
has_sound_index_root v d = is_index_root v d (index_root v d) && is_own_block v (index_root_origin v (index_root v d)) (index_root v d)

-- its list and leaves are well formed, or the list of entries in the root is
abbrev pub has_sound_index_lists : Volume → ℕ → Bool
has_sound_index_lists v d =
    if is_inline_index v (index_root v d)
    then is_sound_dx_list v dx_root_list_place (index_root v d)
    else is_none_of (index_extents v d).faults
    && list_all (λ b. is_own_block v (extent_block_origin v b) b) (index_extents v d).blocks
    && list_all (is_sound_index_leaf v) (index_leaves v d)

-- no cluster stands in the index twice, and none is one of these
abbrev pub has_own_index_clusters : Volume → List ℕ → ℕ → Bool
has_own_index_clusters v claimed d =
    list_all (λ c. times_in (index_clusters v d) c == 1 && times_in claimed c == 0) (index_clusters v d)

-- the last 64 bytes are a void entry with the trailer's signature
unfoldable pub ends_in_trailer : List ℕ → Bool
ends_in_trailer bytes =
    let trailer = dir_trailer_of (drop (length bytes - 64) bytes) in
    trailer.inode == 0 && trailer.rec_len == 64 && trailer.signature.0 == dir_trailer_signature

-- the bytes of a block of the directory
abbrev pub dir_block_bytes : Volume → ℕ → DirBlock → List ℕ
dir_block_bytes v d b = if is_inline v d then inline_bytes v d else v.at b.block

abbrev pub has_trailers : Volume → ℕ → Bool
has_trailers v d = list_all (λ b. ends_in_trailer (dir_block_bytes v d b)) (dir_blocks v d)

-- how many live entries of the directory, and how many entries of its index, are in that block
abbrev pub entries_in_block : Volume → ℕ → ℕ → ℕ
entries_in_block v d block = count_by (λ e. e.block == block) (directory_entries v d)

abbrev pub index_entries_of_block : Volume → ℕ → ℕ → ℕ
index_entries_of_block v d block = count_by (λ x. x.dirent_blk == block) (index_entries v d)

-- there are as many entries in the index as in the directory, as the root says, and for each block as many as in it
abbrev pub has_sound_index_counts : Volume → ℕ → Bool
has_sound_index_counts v d =
    (dx_root v (index_root v d)).num_entries == length (directory_entries v d)
    && length (index_entries v d) == length (directory_entries v d)
    && list_all (λ b. index_entries_of_block v d b.block == entries_in_block v d b.block) (dir_blocks v d)

-- the hash of an entry's name
abbrev pub entry_hash : Volume → Entry → NameHash
entry_hash v e = name_hash v.geo.seed e.name

abbrev pub is_same_hash : NameHash → NameHash → Bool
is_same_hash g h = g.major == h.major && g.minor == h.minor

-- the index entry is one for that hash and block
abbrev pub is_index_entry : NameHash → ℕ → DxEntry → Bool
is_index_entry h block x = x.major_hash == h.major && x.minor_hash == h.minor && x.dirent_blk == block

-- the entry has an ASCII name of that hash, in that block
abbrev pub is_hashed_there : Volume → NameHash → ℕ → Entry → Bool
is_hashed_there v h block e = is_ascii_name e.name && e.block == block && is_same_hash (entry_hash v e) h

-- the index has at least as many entries for an entry's hash and block as there are names with them
abbrev pub is_found_by_hash : Volume → ℕ → Entry → Bool
is_found_by_hash v d e =
    nat_le
    (count_by (is_hashed_there v (entry_hash v e) e.block) (directory_entries v d))
    (count_by (is_index_entry (entry_hash v e) e.block) (index_entries v d))

abbrev pub is_found_in_index : Volume → ℕ → Bool
is_found_in_index v d = list_all (is_found_by_hash v d) (filter (λ e. is_ascii_name e.name) (directory_entries v d))

-- The index of the directory holds, where these clusters have an earlier claim.
unfoldable pub is_sound_index : Volume → List ℕ → ℕ → Bool
is_sound_index v claimed d =
    has_sound_index_root v d
    && has_sound_index_lists v d
    && has_own_index_clusters v claimed d
    && has_trailers v d
    && has_sound_index_counts v d
    && is_found_in_index v d
