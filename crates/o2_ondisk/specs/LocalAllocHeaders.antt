-- The fields of the header of a local alloc.
use Rattle.std.specs.Prelude.{ℕ, List, [], ◌∷◌}
use Rattle.o2_ondisk.specs.Number.{number_at}
use Rattle.o2_ondisk.specs.Fields.{field}
use Rattle.o2_ondisk.specs.declared.layout.Field.{Field}
use Rattle.o2_ondisk.specs.declared.local_alloc_header.LocalAllocHeader.{LocalAllocHeader}

-- what the bytes say
abbrev pub local_alloc_header_of : List ℕ → LocalAllocHeader
local_alloc_header_of block = record {
  bm_off = number_at 0x0 4 block;
  size = number_at 0x4 2 block;
}

-- all fields, in the order of their places
abbrev pub local_alloc_header_fields : List Field
local_alloc_header_fields =
    field 0x0 4 ∷ field 0x4 2 ∷ []

-- their numbers, in the same order
abbrev pub local_alloc_header_numbers : LocalAllocHeader → List ℕ
local_alloc_header_numbers x =
    x.bm_off ∷ x.size ∷ []
