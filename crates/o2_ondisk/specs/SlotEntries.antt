-- The fields of an entry of an extended slot map.
use Rattle.std.specs.Prelude.{ℕ, List, [], ◌∷◌}
use Rattle.o2_ondisk.specs.Number.{number_at}
use Rattle.o2_ondisk.specs.Fields.{field}
use Rattle.o2_ondisk.specs.declared.layout.Field.{Field}
use Rattle.o2_ondisk.specs.declared.slot_entry.SlotEntry.{SlotEntry}

-- what the bytes say
abbrev pub slot_entry_of : List ℕ → SlotEntry
slot_entry_of block = record {
  valid = number_at 0x0 1 block;
  node = number_at 0x4 4 block;
}

-- all fields, in the order of their places
abbrev pub slot_entry_fields : List Field
slot_entry_fields =
    field 0x0 1 ∷ field 0x4 4 ∷ []

-- their numbers, in the same order
abbrev pub slot_entry_numbers : SlotEntry → List ℕ
slot_entry_numbers x =
    x.valid ∷ x.node ∷ []
