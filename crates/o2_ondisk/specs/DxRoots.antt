-- The fields of the root of an index.
use Rattle.std.specs.Prelude.{ℕ, List, [], ◌∷◌}
use Rattle.o2_ondisk.specs.Number.{number_at}
use Rattle.o2_ondisk.specs.Fields.{field}
use Rattle.o2_ondisk.specs.declared.layout.Field.{Field}
use Rattle.o2_ondisk.specs.declared.dx_root.DxRoot.{DxRoot}

-- what the bytes say
abbrev pub dx_root_of : List ℕ → DxRoot
dx_root_of block = record {
  signature = record { 0 = number_at 0x0 8 block };
  suballoc_slot = number_at 0x10 2 block;
  suballoc_bit = number_at 0x12 2 block;
  fs_generation = number_at 0x14 4 block;
  blkno = number_at 0x18 8 block;
  last_eb_blk = number_at 0x20 8 block;
  clusters = number_at 0x28 4 block;
  flags = number_at 0x2c 1 block;
  dir_blkno = number_at 0x30 8 block;
  num_entries = number_at 0x38 4 block;
  free_blk = number_at 0x40 8 block;
  suballoc_loc = number_at 0x48 8 block;
}

-- all fields, in the order of their places
abbrev pub dx_root_fields : List Field
dx_root_fields =
    field 0x0 8 ∷ field 0x10 2 ∷ field 0x12 2 ∷ field 0x14 4 ∷ field 0x18 8 ∷ field 0x20 8 ∷ field 0x28 4 ∷ field 0x2c 1 ∷ field 0x30 8 ∷ field 0x38 4 ∷ field 0x40 8 ∷ field 0x48 8 ∷ []

-- their numbers, in the same order
abbrev pub dx_root_numbers : DxRoot → List ℕ
dx_root_numbers x =
    x.signature.0 ∷ x.suballoc_slot ∷ x.suballoc_bit ∷ x.fs_generation ∷ x.blkno ∷ x.last_eb_blk ∷ x.clusters ∷ x.flags ∷ x.dir_blkno ∷ x.num_entries ∷ x.free_blk ∷ x.suballoc_loc ∷ []

-- where its list of leaves or of entries begins (dr_list, dr_entries), and where the records of a list of leaves do
abbrev pub dx_root_list_place : ℕ
dx_root_list_place = 0xc0

abbrev pub dx_root_records_place : ℕ
dx_root_records_place = 0xd0
