-- The fields of an extent record.
use Rattle.std.specs.Prelude.{ℕ, List, [], ◌∷◌}
use Rattle.o2_ondisk.specs.Number.{number_at}
use Rattle.o2_ondisk.specs.Fields.{field}
use Rattle.o2_ondisk.specs.declared.layout.Field.{Field}
use Rattle.o2_ondisk.specs.declared.extent_rec.ExtentRec.{ExtentRec}

-- what the bytes say
abbrev pub extent_rec_of : List ℕ → ExtentRec
extent_rec_of block = record {
  cpos = number_at 0x0 4 block;
  size = record { 0 = number_at 0x4 4 block };
  blkno = number_at 0x8 8 block;
}

-- all fields, in the order of their places
abbrev pub extent_rec_fields : List Field
extent_rec_fields =
    field 0x0 4 ∷ field 0x4 4 ∷ field 0x8 8 ∷ []

-- their numbers, in the same order
abbrev pub extent_rec_numbers : ExtentRec → List ℕ
extent_rec_numbers x =
    x.cpos ∷ x.size.0 ∷ x.blkno ∷ []
