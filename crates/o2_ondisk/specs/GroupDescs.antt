-- The fields of a group descriptor.
use Rattle.std.specs.Prelude.{ℕ, List, [], ◌∷◌}
use Rattle.o2_ondisk.specs.Number.{number_at}
use Rattle.o2_ondisk.specs.Fields.{field}
use Rattle.o2_ondisk.specs.declared.layout.Field.{Field}
use Rattle.o2_ondisk.specs.declared.group_desc.GroupDesc.{GroupDesc}

-- what the bytes say
abbrev pub group_desc_of : List ℕ → GroupDesc
group_desc_of block = record {
  signature = record { 0 = number_at 0x0 8 block };
  size = number_at 0x8 2 block;
  bits = number_at 0xa 2 block;
  free_bits_count = number_at 0xc 2 block;
  chain = number_at 0xe 2 block;
  generation = number_at 0x10 4 block;
  next_group = number_at 0x18 8 block;
  parent_dinode = number_at 0x20 8 block;
  blkno = number_at 0x28 8 block;
}

-- all fields, in the order of their places
abbrev pub group_desc_fields : List Field
group_desc_fields =
    field 0x0 8 ∷ field 0x8 2 ∷ field 0xa 2 ∷ field 0xc 2 ∷ field 0xe 2 ∷ field 0x10 4 ∷ field 0x18 8 ∷ field 0x20 8 ∷ field 0x28 8 ∷ []

-- their numbers, in the same order
abbrev pub group_desc_numbers : GroupDesc → List ℕ
group_desc_numbers x =
    x.signature.0 ∷ x.size ∷ x.bits ∷ x.free_bits_count ∷ x.chain ∷ x.generation ∷ x.next_group ∷ x.parent_dinode ∷ x.blkno ∷ []
