-- The fields of an entry of a directory.
use Rattle.std.specs.Prelude.{ℕ, List, [], ◌∷◌}
use Rattle.o2_ondisk.specs.Number.{number_at}
use Rattle.o2_ondisk.specs.Fields.{field}
use Rattle.o2_ondisk.specs.declared.layout.Field.{Field}
use Rattle.o2_ondisk.specs.declared.dir_entry.DirEntry.{DirEntry}

-- what the bytes say
abbrev pub dir_entry_of : List ℕ → DirEntry
dir_entry_of block = record {
  inode = number_at 0x0 8 block;
  rec_len = number_at 0x8 2 block;
  name_len = number_at 0xa 1 block;
  file_type = number_at 0xb 1 block;
}

-- all fields, in the order of their places
abbrev pub dir_entry_fields : List Field
dir_entry_fields =
    field 0x0 8 ∷ field 0x8 2 ∷ field 0xa 1 ∷ field 0xb 1 ∷ []

-- their numbers, in the same order
abbrev pub dir_entry_numbers : DirEntry → List ℕ
dir_entry_numbers x =
    x.inode ∷ x.rec_len ∷ x.name_len ∷ x.file_type ∷ []
