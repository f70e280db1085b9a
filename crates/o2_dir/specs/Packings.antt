-- Entries that are packed into pieces of a directory, each as long as a block's part for entries.
use Rattle.std.specs.Prelude.{◌≡◌, ◌≢◌, ℕ, ◌+◌, ◌-◌, ◌*◌, ◌/◌, ◌<◌, ◌≤◌, List, [], ◌∷◌, ◌++◌, All, map, flat_map, sum_by, length, replicate, Some}
use Rattle.o2_ondisk.specs.Fields.{put_all}
use Rattle.o2_ondisk.specs.DirEntries.{dir_entry_of, dir_entry_fields, dir_entry_numbers}
use Rattle.o2_ondisk.specs.declared.dir_entry.DirEntry.{DirEntry}
use Rattle.o2_model.specs.declared.entry.Entry.{Entry}
use Rattle.o2_model.specs.Directories.{NamedEntry, entries_in}

-- ---- room
-- an entry's name has 1 to 255 bytes
abbrev pub HasName : Entry → Type 0
HasName e = (1 ≤ length e.name) × (length e.name ≤ 255)

-- how many bytes an entry needs: 12 and those of its name, up to a multiple of 4
abbrev pub need_of : Entry → ℕ
need_of e = (12 + length e.name + 3) / 4 * 4

-- how many bytes all of them need
abbrev pub needs_of : List Entry → ℕ
needs_of entries = sum_by need_of entries

-- ---- groups
-- The groups are the entries of the pieces, one group each, in order: a piece has entries, as many as it has room for.
pub record IsPacking (room : ℕ) (entries : List Entry) (groups : List (List Entry)) : Type 0 where
  pub joined : flat_map (λ group. group) groups ≡ entries
  pub some : All (λ group. group ≢ []) groups
  pub fit : All (λ group. needs_of group ≤ room) groups
  -- a piece has no room for the first entry of the next one
  pub full : (front back : List (List Entry)) (group others : List Entry) (next : Entry)
      → groups ≡ front ++ group ∷ (next ∷ others) ∷ back → room < needs_of group + need_of next

-- ---- pieces
-- An entry and its length, the bytes to the next one.
pub record Placed : Type 0 where
  pub len : ℕ
  pub entry : Entry

-- the entries of a piece of so many bytes: each as long as it needs to be, and the last with all the room that is left
abbrev pub placed : ℕ → List Entry → List Placed
placed room [] = []
placed room (e ∷ []) = record { len = room; entry = e } ∷ []
placed room (e ∷ f ∷ es) = record { len = need_of e; entry = e } ∷ placed (room - need_of e) (f ∷ es)

-- its fields (struct ocfs2_dir_entry)
abbrev pub placed_fields : Placed → DirEntry
placed_fields p = record { inode = p.entry.inode; rec_len = p.len; name_len = length p.entry.name; file_type = p.entry.file_type }

-- the bytes of its fields, the first 12
unfoldable pub placed_front : Placed → List ℕ
placed_front p = put_all dir_entry_fields (dir_entry_numbers (placed_fields p)) (replicate 12 0)

-- all its bytes: its fields, its name, and zeros up to its length
abbrev pub placed_bytes : Placed → List ℕ
placed_bytes p = placed_front p ++ (p.entry.name ++ replicate (p.len - (12 + length p.entry.name)) 0)

-- a read of these bytes gives its fields back
abbrev pub IsTold : Placed → Type 0
IsTold p = dir_entry_of (placed_front p) ≡ placed_fields p

-- the bytes of a piece with these entries, one after the other
abbrev pub piece_bytes : ℕ → List Entry → List ℕ
piece_bytes room group = flat_map placed_bytes (placed room group)

-- the entry as it is read from these bytes
abbrev pub placed_entry : Placed → NamedEntry
placed_entry p = record { fields = placed_fields p; name = p.entry.name }

-- the entries that fill a piece
abbrev pub piece_entries : ℕ → List Entry → List NamedEntry
piece_entries room group = map placed_entry (placed room group)

-- The pieces that the entries are packed into, and the entries that are read from each.
pub record ArePieces (room : ℕ) (entries : List Entry) (pieces : List (List ℕ)) : Type 0 where
  pub groups : List (List Entry)
  pub packing : IsPacking room entries groups
  pub bytes : pieces ≡ map (piece_bytes room) groups
  pub read : map entries_in pieces ≡ map (λ group. Some (piece_entries room group)) groups
