-- The fields of the header of a refcount list.
use Rattle.std.specs.Prelude.{ℕ, List, [], ◌∷◌}
use Rattle.o2_ondisk.specs.Number.{number_at}
use Rattle.o2_ondisk.specs.Fields.{field}
use Rattle.o2_ondisk.specs.declared.layout.Field.{Field}
use Rattle.o2_ondisk.specs.declared.refcount_list_header.RefcountListHeader.{RefcountListHeader}

-- what the bytes say
abbrev pub refcount_list_header_of : List ℕ → RefcountListHeader
refcount_list_header_of block = record {
  count = number_at 0x0 2 block;
  used = number_at 0x2 2 block;
}

-- all fields, in the order of their places
abbrev pub refcount_list_header_fields : List Field
refcount_list_header_fields =
    field 0x0 2 ∷ field 0x2 2 ∷ []

-- their numbers, in the same order
abbrev pub refcount_list_header_numbers : RefcountListHeader → List ℕ
refcount_list_header_numbers x =
    x.count ∷ x.used ∷ []
