-- The entries of a slot map: which node has each slot.
use Rattle.std.specs.Prelude.{ℕ, ◌*◌, Bool, ◌==◌, is_some, List, map, Option, Some, None, slice_get, unwrap_or, if◌then◌else◌}
use Rattle.std.specs.List.{range_with_len}
use Rattle.o2_ondisk.specs.Bits.{has_bits, extended_slot_map_feature}
use Rattle.o2_ondisk.specs.Number.{number_at}
use Rattle.o2_ondisk.specs.SlotEntries.{slot_entry_of}
use Rattle.o2_ondisk.specs.declared.slot_entry.SlotEntry.{SlotEntry}
use Rattle.o2_model.specs.Words.{table}
use Rattle.o2_model.specs.Volume.{Volume}
use Rattle.o2_model.specs.Inodes.{leaf_records}
use Rattle.o2_model.specs.Contents.{byte_of}
use Rattle.o2_model.specs.Checks.SlotMap.{slot_entry_size}
use Rattle.o2_model.specs.declared.geo.Geo.{Geo}
use Rattle.o2_view.specs.Geos.{bare}

-- ---- one entry
-- entries are extended ones (`OCFS2_FEATURE_INCOMPAT_EXTENDED_SLOT_MAP`)
abbrev pub has_extended_entries : Geo → Bool
has_extended_entries geo = has_bits geo.incompat extended_slot_map_feature

-- bytes of an entry
abbrev pub entry_size : Geo → ℕ
entry_size geo = slot_entry_size (bare geo)

-- the node of an extended entry, none where it is not valid
abbrev pub node_of_entry : SlotEntry → Option ℕ
node_of_entry entry = if entry.valid == 0 then None else Some entry.node

-- the node of an entry that is a number, none where all of its bits are set
abbrev pub node_of_number : ℕ → Option ℕ
node_of_number number = if number == 0xffff then None else Some number

-- the node of the entry that these bytes begin with
abbrev pub node_of : Geo → List ℕ → Option ℕ
node_of geo bytes = if has_extended_entries geo then node_of_entry (slot_entry_of bytes) else node_of_number (number_at 0 2 bytes)

-- ---- all entries
-- the node of each slot, by the bytes of the entries
abbrev pub nodes_in : Geo → List ℕ → List (Option ℕ)
nodes_in geo bytes = table (node_of geo) (entry_size geo) 0 geo.slots bytes

-- the bytes of the entries in the file of the slot map
abbrev pub entry_bytes : Volume → ℕ → List ℕ
entry_bytes v b = map (byte_of v (leaf_records v b)) (range_with_len 0 (v.geo.slots * slot_entry_size v))

-- the node of each slot of the volume
abbrev pub nodes : Volume → ℕ → List (Option ℕ)
nodes v b = nodes_in v.geo (entry_bytes v b)

-- ---- slots
-- the node of the slot, none past the end of the map
abbrev pub node_at : List (Option ℕ) → ℕ → Option ℕ
node_at nodes slot = unwrap_or (slice_get nodes slot) None

-- the slot has a node
abbrev pub is_occupied : List (Option ℕ) → ℕ → Bool
is_occupied nodes slot = is_some (node_at nodes slot)
