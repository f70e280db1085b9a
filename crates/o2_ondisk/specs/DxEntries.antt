-- The fields of an index entry.
use Rattle.std.specs.Prelude.{ℕ, List, [], ◌∷◌}
use Rattle.o2_ondisk.specs.Number.{number_at}
use Rattle.o2_ondisk.specs.Fields.{field}
use Rattle.o2_ondisk.specs.declared.layout.Field.{Field}
use Rattle.o2_ondisk.specs.declared.dx_entry.DxEntry.{DxEntry}

-- what the bytes say
abbrev pub dx_entry_of : List ℕ → DxEntry
dx_entry_of block = record {
  major_hash = number_at 0x0 4 block;
  minor_hash = number_at 0x4 4 block;
  dirent_blk = number_at 0x8 8 block;
}

-- all fields, in the order of their places
abbrev pub dx_entry_fields : List Field
dx_entry_fields =
    field 0x0 4 ∷ field 0x4 4 ∷ field 0x8 8 ∷ []

-- their numbers, in the same order
abbrev pub dx_entry_numbers : DxEntry → List ℕ
dx_entry_numbers x =
    x.major_hash ∷ x.minor_hash ∷ x.dirent_blk ∷ []
