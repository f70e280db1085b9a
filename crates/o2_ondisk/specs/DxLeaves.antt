-- The fields of a leaf of an index.
use Rattle.std.specs.Prelude.{ℕ, List, [], ◌∷◌}
use Rattle.o2_ondisk.specs.Number.{number_at}
use Rattle.o2_ondisk.specs.Fields.{field}
use Rattle.o2_ondisk.specs.declared.layout.Field.{Field}
use Rattle.o2_ondisk.specs.declared.dx_leaf.DxLeaf.{DxLeaf}

-- what the bytes say
abbrev pub dx_leaf_of : List ℕ → DxLeaf
dx_leaf_of block = record {
  signature = record { 0 = number_at 0x0 8 block };
  blkno = number_at 0x10 8 block;
  fs_generation = number_at 0x18 4 block;
}

-- all fields, in the order of their places
abbrev pub dx_leaf_fields : List Field
dx_leaf_fields =
    field 0x0 8 ∷ field 0x10 8 ∷ field 0x18 4 ∷ []

-- their numbers, in the same order
abbrev pub dx_leaf_numbers : DxLeaf → List ℕ
dx_leaf_numbers x =
    x.signature.0 ∷ x.blkno ∷ x.fs_generation ∷ []
