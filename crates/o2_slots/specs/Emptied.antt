-- A slot map whose entries from some slot on are emptied.
use Rattle.std.specs.Prelude.{◌≡◌, ℕ, ◌+◌, ◌-◌, ◌*◌, ◌/◌, ◌%◌, ◌^◌, ◌<◌, Bool, false, ◌&&◌, nat_le, nat_lt, List, length, map, slice_index, unwrap_or, if◌then◌else◌}
use Rattle.std.specs.List.{range_with_len}
use Rattle.o2_model.specs.Words.{among}
use Rattle.o2_model.specs.Volume.{Volume, block_size, per_cluster}
use Rattle.o2_model.specs.Inodes.{leaf_records}
use Rattle.o2_model.specs.declared.geo.Geo.{Geo}
use Rattle.o2_extent.specs.Maps.{cluster_at}
use Rattle.o2_slots.specs.Entries.{has_extended_entries, entry_size}

-- ---- the bytes of an empty entry
-- how many of an entry's bytes say that it is empty, from its first one on: the valid byte of an extended one, both of another
abbrev pub empty_width : Geo → ℕ
empty_width geo = if has_extended_entries geo then 1 else 2

-- what each of them is in an empty one
abbrev pub empty_byte : Geo → ℕ
empty_byte geo = if has_extended_entries geo then 0 else 0xff

-- byte k of the file is one of these in an entry of a slot from `first` on and below `end`
unfoldable pub says_empty : Geo → ℕ → ℕ → ℕ → Bool
says_empty geo first end k = nat_le first (k / entry_size geo) && nat_lt (k / entry_size geo) end && nat_lt (k % entry_size geo) (empty_width geo)

-- what byte k of the file, of this value, is once those entries are empty
abbrev pub emptied_byte : Geo → ℕ → ℕ → ℕ → ℕ → ℕ
emptied_byte geo first end k byte = if says_empty geo first end k then empty_byte geo else byte

-- ---- where the entries are
-- the first block of the file. All entries stand in its first cluster, whose blocks follow one another.
abbrev pub map_place : Volume → ℕ → ℕ
map_place v b = unwrap_or (cluster_at (per_cluster v) 0 (leaf_records v b)) 0

-- the block of a slot's entry in a file that begins at this block
abbrev pub entry_block : Geo → ℕ → ℕ → ℕ
entry_block geo place slot = place + slot * entry_size geo / 2 ^ geo.block_bits

-- those of the entries from slot `from` on
unfoldable pub entry_blocks : Geo → ℕ → ℕ → List ℕ
entry_blocks geo place from = map (entry_block geo place) (range_with_len from (geo.slots - from))

-- ---- the change
-- The new bytes are those of block k of the file once the entries from slot `from` on are empty.
pub record IsEmptiedBlock (geo : Geo) (k from : ℕ) (old new : List ℕ) : Type 0 where
  pub size : length new ≡ length old
  pub bytes : (i : ℕ) → i < 2 ^ geo.block_bits → slice_index new i ≡ emptied_byte geo from geo.slots (k * 2 ^ geo.block_bits + i) (slice_index old i)

-- byte i of block x once the entries from slot `from` on are empty, in a file that begins at this block
abbrev pub byte_after : Volume → ℕ → ℕ → ℕ → ℕ → ℕ
byte_after old place from x i =
    if nat_le place x then emptied_byte old.geo from old.geo.slots ((x - place) * block_size old + i) (slice_index (old.at x) i) else slice_index (old.at x) i

-- The entries from slot `from` on are empty in the new volume, in a file that begins at this block, and all else is as it was.
pub record AreEmptied (old new : Volume) (place from : ℕ) : Type 0 where
  pub numbers : new.geo ≡ old.geo
  pub device : new.on_device ≡ old.on_device
  pub sizes : (x : ℕ) → length (new.at x) ≡ length (old.at x)
  pub bytes : (x i : ℕ) → i < block_size old → slice_index (new.at x) i ≡ byte_after old place from x i
  pub others : (x : ℕ) → among (entry_blocks old.geo place from) x ≡ false → new.at x ≡ old.at x

-- the same of the slot map whose dinode is in this block
abbrev pub IsEmptied : Volume → Volume → ℕ → ℕ → Type 0
IsEmptied old new inode from = AreEmptied old new (map_place old inode) from

-- the blocks that have an entry from slot `from` on
abbrev pub emptied_blocks : Volume → ℕ → ℕ → List ℕ
emptied_blocks v inode from = entry_blocks v.geo (map_place v inode) from
