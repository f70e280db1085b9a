-- The fields of a refcount record.
use Rattle.std.specs.Prelude.{ℕ, List, [], ◌∷◌}
use Rattle.o2_ondisk.specs.Number.{number_at}
use Rattle.o2_ondisk.specs.Fields.{field}
use Rattle.o2_ondisk.specs.declared.layout.Field.{Field}
use Rattle.o2_ondisk.specs.declared.refcount_rec.RefcountRec.{RefcountRec}

-- what the bytes say
abbrev pub refcount_rec_of : List ℕ → RefcountRec
refcount_rec_of block = record {
  cpos = number_at 0x0 8 block;
  clusters = number_at 0x8 4 block;
  refcount = number_at 0xc 4 block;
}

-- all fields, in the order of their places
abbrev pub refcount_rec_fields : List Field
refcount_rec_fields =
    field 0x0 8 ∷ field 0x8 4 ∷ field 0xc 4 ∷ []

-- their numbers, in the same order
abbrev pub refcount_rec_numbers : RefcountRec → List ℕ
refcount_rec_numbers x =
    x.cpos ∷ x.clusters ∷ x.refcount ∷ []
