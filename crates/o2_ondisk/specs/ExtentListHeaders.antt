-- The fields before the records of an extent list.
use Rattle.std.specs.Prelude.{ℕ, List, [], ◌∷◌}
use Rattle.o2_ondisk.specs.Number.{number_at}
use Rattle.o2_ondisk.specs.Fields.{field}
use Rattle.o2_ondisk.specs.declared.layout.Field.{Field}
use Rattle.o2_ondisk.specs.declared.extent_list_header.ExtentListHeader.{ExtentListHeader}

-- what the bytes say
abbrev pub extent_list_header_of : List ℕ → ExtentListHeader
extent_list_header_of block = record {
  tree_depth = number_at 0x0 2 block;
  count = number_at 0x2 2 block;
  next_free_rec = number_at 0x4 2 block;
}

-- all fields, in the order of their places
abbrev pub extent_list_header_fields : List Field
extent_list_header_fields =
    field 0x0 2 ∷ field 0x2 2 ∷ field 0x4 2 ∷ []

-- their numbers, in the same order
abbrev pub extent_list_header_numbers : ExtentListHeader → List ℕ
extent_list_header_numbers x =
    x.tree_depth ∷ x.count ∷ x.next_free_rec ∷ []
