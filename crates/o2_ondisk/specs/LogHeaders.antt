-- The fields of the header of a log block.
use Rattle.std.specs.Prelude.{ℕ, List, [], ◌∷◌}
use Rattle.o2_ondisk.specs.Number.{big_number_at}
use Rattle.o2_ondisk.specs.Fields.{field}
use Rattle.o2_ondisk.specs.declared.layout.Field.{Field}
use Rattle.o2_ondisk.specs.declared.log_header.LogHeader.{LogHeader}

-- what the bytes say
abbrev pub log_header_of : List ℕ → LogHeader
log_header_of block = record {
  magic = big_number_at 0x0 4 block;
  blocktype = big_number_at 0x4 4 block;
  sequence = big_number_at 0x8 4 block;
}

-- all fields, in the order of their places
abbrev pub log_header_fields : List Field
log_header_fields =
    field 0x0 4 ∷ field 0x4 4 ∷ field 0x8 4 ∷ []

-- their numbers, in the same order
abbrev pub log_header_numbers : LogHeader → List ℕ
log_header_numbers x =
    x.magic ∷ x.blocktype ∷ x.sequence ∷ []
