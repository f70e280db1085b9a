-- The entries of a directory.
use Rattle.std.specs.Prelude.{◌≡◌, ℕ, zero, suc, pred, ◌+◌, ◌-◌, ◌*◌, ◌/◌, ◌%◌, Bool, ◌&&◌, ◌||◌, not, ◌==◌, nat_lt, nat_le, List, [], ◌∷◌, ◌++◌, map, flat_map, filter, length, take, drop, codes, bytes_eq, IsTrue, find, Option, Some, None, option_map, unwrap_or, if◌then◌else◌}
use Rattle.std.specs.List.{range_with_len}
use Rattle.o2_ondisk.specs.Bits.{has_bits, unwritten_extent_flag}
use Rattle.o2_ondisk.specs.Dinodes.{inline_data_place}
use Rattle.o2_ondisk.specs.DirEntries.{dir_entry_of}
use Rattle.o2_ondisk.specs.declared.dir_entry.DirEntry.{DirEntry}
use Rattle.o2_model.specs.declared.entry.Entry.{Entry}
use Rattle.o2_model.specs.declared.leaf.Leaf.{Leaf}
use Rattle.o2_model.specs.Volume.{Volume, block_size, per_cluster, dinode}
use Rattle.o2_model.specs.Inodes.{is_inline, leaf_records}

-- ---- the entries that fill some bytes
-- An entry with its name (struct ocfs2_dir_entry). One whose inode is 0 is void.
pub record NamedEntry : Type 0 where
  pub fields : DirEntry
  pub name : List ℕ

-- the entry at the front of these bytes
abbrev pub entry_at_front : List ℕ → NamedEntry
entry_at_front bytes = record {
  fields = dir_entry_of bytes;
  name = take (dir_entry_of bytes).name_len (drop 0xc bytes);
}

abbrev pub is_live : NamedEntry → Bool
is_live e = not (e.fields.inode == 0)

-- An entry stands at the front of these bytes: its rec_len is a multiple of 4, at least 12, within the bytes, and enough
-- for a live entry's name.
unfoldable pub has_entry : List ℕ → Bool
has_entry bytes =
    (dir_entry_of bytes).rec_len % 4 == 0
    && nat_le 12 (dir_entry_of bytes).rec_len
    && nat_le (dir_entry_of bytes).rec_len (length bytes)
    && ((dir_entry_of bytes).inode == 0 || nat_le (12 + (dir_entry_of bytes).name_len) (dir_entry_of bytes).rec_len)

-- These entries fill the bytes, one after the other.
abbrev pub Fill : List NamedEntry → List ℕ → Type 0
Fill [] bytes = bytes ≡ []
Fill (e ∷ es) bytes = IsTrue (has_entry bytes) × (e ≡ entry_at_front bytes) × Fill es (drop e.fields.rec_len bytes)

-- one more at the front
abbrev pub before : {A : Type 0} → A → Option (List A) → Option (List A)
before x found = option_map (λ xs. x ∷ xs) found

-- several more at the front
abbrev pub behind : {A : Type 0} → List A → Option (List A) → Option (List A)
behind front found = option_map (λ xs. front ++ xs) found

-- the entries that fill the bytes behind the first `skipped`, if some do
abbrev pub entries_behind : ℕ → List ℕ → Option (List NamedEntry)
entries_behind zero [] = Some []
entries_behind (suc skipped) [] = None
entries_behind (suc skipped) (b ∷ bytes) = entries_behind skipped bytes
entries_behind zero (b ∷ bytes) =
    if has_entry (b ∷ bytes)
    then before (entry_at_front (b ∷ bytes)) (entries_behind (pred (dir_entry_of (b ∷ bytes)).rec_len) bytes)
    else None

-- the entries that fill the bytes, if some do
unfoldable pub entries_in : List ℕ → Option (List NamedEntry)
entries_in bytes = entries_behind 0 bytes

-- ---- blocks of a directory
-- A block of a directory, or its inline bytes, with the entries that fill it, if some do.
pub record DirBlock : Type 0 where
  -- which of the directory's blocks it is
  pub place : ℕ
  pub block : ℕ
  pub found : Option (List NamedEntry)

-- the clusters of the record are not marked `OCFS2_EXT_UNWRITTEN`
abbrev pub is_written : Leaf → Bool
is_written leaf = not (has_bits leaf.flags unwritten_extent_flag)

-- the k-th block of a run that begins with this place in the directory and this block
abbrev pub dir_block : Volume → ℕ → ℕ → ℕ → DirBlock
dir_block v place block k = record { place = place + k; block = block + k; found = entries_in (v.at (block + k)) }

-- the blocks that the record maps, those at places below `limit`
abbrev pub mapped : Volume → ℕ → Leaf → List DirBlock
mapped v limit leaf =
    let first = leaf.cpos * per_cluster v in
    map (dir_block v first leaf.block) (filter (λ k. nat_lt (first + k) limit) (range_with_len 0 (leaf.clusters * per_cluster v)))

-- at most this many bytes fit a dinode (ocfs2_max_inline_data)
abbrev pub inline_room : Volume → ℕ
inline_room v = block_size v - inline_data_place

-- the first i_size inline bytes (id_data of struct ocfs2_inline_data)
abbrev pub inline_bytes : Volume → ℕ → List ℕ
inline_bytes v b = take (dinode v b).size (drop inline_data_place (v.at b))

-- the inline bytes as the directory's one block, without entries where i_size does not fit the dinode
abbrev pub inline_block : Volume → ℕ → DirBlock
inline_block v d = record { place = 0; block = d; found = if nat_le (dinode v d).size (inline_room v) then entries_in (inline_bytes v d) else None }

-- the mapped and written blocks of the directory below i_size, in order, or its inline bytes
unfoldable pub dir_blocks : Volume → ℕ → List DirBlock
dir_blocks v d =
    if is_inline v d
    then inline_block v d ∷ []
    else flat_map (mapped v ((dinode v d).size / block_size v)) (filter is_written (leaf_records v d))

-- ---- live entries
-- the entry as one that stands in this block, from byte `at` of the block or of the inline bytes on
abbrev pub standing : ℕ → ℕ → NamedEntry → Entry
standing block at e = record { inode = e.fields.inode; file_type = e.fields.file_type; name = e.name; block = block; at = at }

-- the live ones of the entries that stand in a block from byte `at` on
abbrev pub live_from : ℕ → ℕ → List NamedEntry → List Entry
live_from block at [] = []
live_from block at (e ∷ es) =
    if is_live e
    then standing block at e ∷ live_from block (at + e.fields.rec_len) es
    else live_from block (at + e.fields.rec_len) es

-- those of a block that its entries fill; any other block has none
abbrev pub entries_of_block : DirBlock → List Entry
entries_of_block b = live_from b.block 0 (unwrap_or b.found [])

-- the live entries of the directory, in order
unfoldable pub directory_entries : Volume → ℕ → List Entry
directory_entries v d = flat_map entries_of_block (dir_blocks v d)

-- the entry has this name
abbrev pub is_named : List ℕ → Entry → Bool
is_named name e = bytes_eq e.name name

-- the entry is `.` or `..`
abbrev pub is_dot : Entry → Bool
is_dot e = is_named (codes ".") e || is_named (codes "..") e

-- the first live entry of that name, where there is one
abbrev pub first_named : Volume → ℕ → List ℕ → Option Entry
first_named v d name = find (is_named name) (directory_entries v d)

-- the volume's own inodes: the system directory, and those that its live entries but the dots name
unfoldable pub own_inodes : Volume → List ℕ
own_inodes v = v.geo.sysdir ∷ map (λ e. e.inode) (filter (λ e. not (is_dot e)) (directory_entries v v.geo.sysdir))

-- the live entries of the directory but `.` and `..`, in order
abbrev pub named_entries : Volume → ℕ → List Entry
named_entries v d = filter (λ e. not (is_dot e)) (directory_entries v d)
