-- The fields of a chain record.
use Rattle.std.specs.Prelude.{ℕ, List, [], ◌∷◌}
use Rattle.o2_ondisk.specs.Number.{number_at}
use Rattle.o2_ondisk.specs.Fields.{field}
use Rattle.o2_ondisk.specs.declared.layout.Field.{Field}
use Rattle.o2_ondisk.specs.declared.chain_rec.ChainRec.{ChainRec}

-- what the bytes say
abbrev pub chain_rec_of : List ℕ → ChainRec
chain_rec_of block = record {
  free = number_at 0x0 4 block;
  total = number_at 0x4 4 block;
  blkno = number_at 0x8 8 block;
}

-- all fields, in the order of their places
abbrev pub chain_rec_fields : List Field
chain_rec_fields =
    field 0x0 4 ∷ field 0x4 4 ∷ field 0x8 8 ∷ []

-- their numbers, in the same order
abbrev pub chain_rec_numbers : ChainRec → List ℕ
chain_rec_numbers x =
    x.free ∷ x.total ∷ x.blkno ∷ []
