-- The fields of a truncate record.
use Rattle.std.specs.Prelude.{ℕ, List, [], ◌∷◌}
use Rattle.o2_ondisk.specs.Number.{number_at}
use Rattle.o2_ondisk.specs.Fields.{field}
use Rattle.o2_ondisk.specs.declared.layout.Field.{Field}
use Rattle.o2_ondisk.specs.declared.truncate_rec.TruncateRec.{TruncateRec}

-- what the bytes say
abbrev pub truncate_rec_of : List ℕ → TruncateRec
truncate_rec_of block = record {
  start = number_at 0x0 4 block;
  clusters = number_at 0x4 4 block;
}

-- all fields, in the order of their places
abbrev pub truncate_rec_fields : List Field
truncate_rec_fields =
    field 0x0 4 ∷ field 0x4 4 ∷ []

-- their numbers, in the same order
abbrev pub truncate_rec_numbers : TruncateRec → List ℕ
truncate_rec_numbers x =
    x.start ∷ x.clusters ∷ []
