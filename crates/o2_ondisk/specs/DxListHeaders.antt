-- The fields of the header of a list of index entries.
use Rattle.std.specs.Prelude.{ℕ, List, [], ◌∷◌}
use Rattle.o2_ondisk.specs.Number.{number_at}
use Rattle.o2_ondisk.specs.Fields.{field}
use Rattle.o2_ondisk.specs.declared.layout.Field.{Field}
use Rattle.o2_ondisk.specs.declared.dx_list_header.DxListHeader.{DxListHeader}

-- what the bytes say
abbrev pub dx_list_header_of : List ℕ → DxListHeader
dx_list_header_of block = record {
  count = number_at 0x4 2 block;
  num_used = number_at 0x6 2 block;
}

-- all fields, in the order of their places
abbrev pub dx_list_header_fields : List Field
dx_list_header_fields =
    field 0x4 2 ∷ field 0x6 2 ∷ []

-- their numbers, in the same order
abbrev pub dx_list_header_numbers : DxListHeader → List ℕ
dx_list_header_numbers x =
    x.count ∷ x.num_used ∷ []
