-- The super's part of the dinode in block 2, with places from the part's beginning. Each place is written out here by
-- itself, so that a place in the code that differs is refused.
use Rattle.std.specs.Prelude.{ℕ, List, [], ◌∷◌}
use Rattle.o2_ondisk.specs.Number.{number_at}
use Rattle.o2_ondisk.specs.Fields.{field, bytes_at, paste_at, put_all}
use Rattle.o2_ondisk.specs.declared.layout.Field.{Field}
use Rattle.o2_ondisk.specs.declared.superblock.Super.{Super}

-- what the bytes of a part say
abbrev pub super_of : List ℕ → Super
super_of block = record {
  feature_compat = number_at 0x1c 4 block;
  feature_incompat = number_at 0x20 4 block;
  feature_ro_compat = number_at 0x24 4 block;
  root_blkno = number_at 0x28 8 block;
  system_dir_blkno = number_at 0x30 8 block;
  blocksize_bits = number_at 0x38 4 block;
  clustersize_bits = number_at 0x3c 4 block;
  max_slots = number_at 0x40 2 block;
  uuid_hash = number_at 0x44 4 block;
  first_cluster_group = number_at 0x48 8 block;
  label = bytes_at 0x50 64 block;
  uuid = bytes_at 0x90 16 block;
  cluster_info = bytes_at 0xa0 24 block;
  xattr_inline_size = number_at 0xb8 2 block;
  dx_seed = record {
    first = number_at 0xbc 4 block;
    second = number_at 0xc0 4 block;
    third = number_at 0xc4 4 block;
  };
}

-- the fields that hold numbers, in the order of their places
abbrev pub super_number_fields : List Field
super_number_fields =
    field 0x1c 4 ∷ field 0x20 4 ∷ field 0x24 4 ∷ field 0x28 8 ∷ field 0x30 8 ∷ field 0x38 4 ∷ field 0x3c 4
    ∷ field 0x40 2 ∷ field 0x44 4 ∷ field 0x48 8 ∷ field 0xb8 2 ∷ field 0xbc 4 ∷ field 0xc0 4 ∷ field 0xc4 4 ∷ []

-- all fields, in the order of their places
abbrev pub super_fields : List Field
super_fields =
    field 0x1c 4 ∷ field 0x20 4 ∷ field 0x24 4 ∷ field 0x28 8 ∷ field 0x30 8 ∷ field 0x38 4 ∷ field 0x3c 4
    ∷ field 0x40 2 ∷ field 0x44 4 ∷ field 0x48 8 ∷ field 0x50 64 ∷ field 0x90 16 ∷ field 0xa0 24 ∷ field 0xb8 2 ∷ field 0xbc 4 ∷ field 0xc0 4 ∷ field 0xc4 4 ∷ []

-- the numbers of a part, in the order of their places
abbrev pub super_numbers : Super → List ℕ
super_numbers x =
    x.feature_compat ∷ x.feature_incompat ∷ x.feature_ro_compat ∷ x.root_blkno ∷ x.system_dir_blkno
    ∷ x.blocksize_bits ∷ x.clustersize_bits ∷ x.max_slots ∷ x.uuid_hash ∷ x.first_cluster_group
    ∷ x.xattr_inline_size ∷ x.dx_seed.first ∷ x.dx_seed.second ∷ x.dx_seed.third ∷ []

-- the bytes with these fields
abbrev pub with_super : Super → List ℕ → List ℕ
with_super x block =
    let numbers = put_all super_number_fields (super_numbers x) block in
    paste_at 0xa0 x.cluster_info (paste_at 0x90 x.uuid (paste_at 0x50 x.label numbers))
