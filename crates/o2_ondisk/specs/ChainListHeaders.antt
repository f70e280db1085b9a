-- The fields of the header of a chain list.
use Rattle.std.specs.Prelude.{ℕ, List, [], ◌∷◌}
use Rattle.o2_ondisk.specs.Number.{number_at}
use Rattle.o2_ondisk.specs.Fields.{field}
use Rattle.o2_ondisk.specs.declared.layout.Field.{Field}
use Rattle.o2_ondisk.specs.declared.chain_list_header.ChainListHeader.{ChainListHeader}

-- what the bytes say
abbrev pub chain_list_header_of : List ℕ → ChainListHeader
chain_list_header_of block = record {
  cpg = number_at 0x0 2 block;
  bpc = number_at 0x2 2 block;
  count = number_at 0x4 2 block;
  next_free_rec = number_at 0x6 2 block;
}

-- all fields, in the order of their places
abbrev pub chain_list_header_fields : List Field
chain_list_header_fields =
    field 0x0 2 ∷ field 0x2 2 ∷ field 0x4 2 ∷ field 0x6 2 ∷ []

-- their numbers, in the same order
abbrev pub chain_list_header_numbers : ChainListHeader → List ℕ
chain_list_header_numbers x =
    x.cpg ∷ x.bpc ∷ x.count ∷ x.next_free_rec ∷ []
