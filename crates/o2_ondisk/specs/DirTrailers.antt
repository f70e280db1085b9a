-- The fields of the trailer of a directory block.
use Rattle.std.specs.Prelude.{ℕ, List, [], ◌∷◌}
use Rattle.o2_ondisk.specs.Number.{number_at}
use Rattle.o2_ondisk.specs.Fields.{field}
use Rattle.o2_ondisk.specs.declared.layout.Field.{Field}
use Rattle.o2_ondisk.specs.declared.dir_trailer.DirTrailer.{DirTrailer}

-- what the bytes say
abbrev pub dir_trailer_of : List ℕ → DirTrailer
dir_trailer_of block = record {
  inode = number_at 0x0 8 block;
  rec_len = number_at 0x8 2 block;
  signature = record { 0 = number_at 0x10 8 block };
  blkno = number_at 0x28 8 block;
  parent_dinode = number_at 0x30 8 block;
}

-- all fields, in the order of their places
abbrev pub dir_trailer_fields : List Field
dir_trailer_fields =
    field 0x0 8 ∷ field 0x8 2 ∷ field 0x10 8 ∷ field 0x28 8 ∷ field 0x30 8 ∷ []

-- their numbers, in the same order
abbrev pub dir_trailer_numbers : DirTrailer → List ℕ
dir_trailer_numbers x =
    x.inode ∷ x.rec_len ∷ x.signature.0 ∷ x.blkno ∷ x.parent_dinode ∷ []
