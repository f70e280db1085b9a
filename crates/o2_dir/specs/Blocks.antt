-- The blocks of a directory by the leaf records of its extents.
use Rattle.std.specs.Prelude.{◌≡◌, ℕ, ◌+◌, ◌*◌, ◌≤◌, nat_lt, Bool, ◌&&◌, List, [], ◌∷◌, map, filter, flat_map, bytes_eq, take, drop}
use Rattle.std.specs.List.{range_with_len}
use Rattle.o2_ondisk.specs.Dinodes.{inline_data_place}
use Rattle.o2_model.specs.Volume.{Volume}
use Rattle.o2_model.specs.Faults.{fails_at}
use Rattle.o2_model.specs.Directories.{DirBlock, is_written, entries_in, entries_of_block, entry_at_front, has_entry, is_live}
use Rattle.o2_model.specs.Checks.DirBlock.{is_sound_dir_block}
use Rattle.o2_model.specs.declared.leaf.Leaf.{Leaf}
use Rattle.o2_dir.specs.declared.places.Place.{Place}
use Rattle.o2_dir.specs.declared.reading.Reading.{Reading}

-- the k-th block of the record's clusters, and which of the directory's blocks it is
abbrev pub place_in : ℕ → Leaf → ℕ → Place
place_in per_cluster leaf k = record { place = leaf.cpos * per_cluster + k; block = leaf.block + k }

-- the first `count` of them, those at places below `limit`
abbrev pub first_places : ℕ → ℕ → Leaf → ℕ → List Place
first_places per_cluster limit leaf count = map (place_in per_cluster leaf) (filter (λ k. nat_lt (leaf.cpos * per_cluster + k) limit) (range_with_len 0 count))

-- all of them
abbrev pub places_in : ℕ → ℕ → Leaf → List Place
places_in per_cluster limit leaf = first_places per_cluster limit leaf (leaf.clusters * per_cluster)

-- those of all written records
abbrev pub places_of : ℕ → ℕ → List Leaf → List Place
places_of per_cluster limit leaves = flat_map (places_in per_cluster limit) (filter is_written leaves)

-- the record's clusters lie within so many blocks
abbrev pub EndsIn : ℕ → ℕ → Leaf → Type 0
EndsIn per_cluster blocks leaf = leaf.block + leaf.clusters * per_cluster ≤ blocks

-- the block at this place, with the entries that fill it
abbrev pub block_at_place : Volume → Place → DirBlock
block_at_place v p = record { place = p.place; block = p.block; found = entries_in (v.at p.block) }

-- the inline bytes of a dinode of these bytes as a directory's one block, with the entries that fill them
unfoldable pub blocks_in_dinode : ℕ → ℕ → List ℕ → List DirBlock
blocks_in_dinode inode size bytes = record { place = 0; block = inode; found = entries_in (take size (drop inline_data_place bytes)) } ∷ []

-- a live entry of this name stands at the front of the bytes
abbrev pub begins_with : List ℕ → List ℕ → Bool
begins_with name bytes = has_entry bytes && (is_live (entry_at_front bytes) && bytes_eq (entry_at_front bytes).name name)

-- What was read of these blocks: those that are not sound, and the entries of all that their entries fill.
pub record Keeps (reading : Reading) (blocks : List DirBlock) : Type 0 where
  pub faults : reading.faults.items ≡ fails_at (λ b. b.block) is_sound_dir_block blocks
  pub entries : reading.entries.items ≡ flat_map entries_of_block blocks
