-- The fields of a tag of a descriptor.
use Rattle.std.specs.Prelude.{ℕ, List, [], ◌∷◌}
use Rattle.o2_ondisk.specs.Number.{big_number_at}
use Rattle.o2_ondisk.specs.Fields.{field}
use Rattle.o2_ondisk.specs.declared.layout.Field.{Field}
use Rattle.o2_ondisk.specs.declared.journal_tag.JournalTag.{JournalTag}

-- what the bytes say
abbrev pub journal_tag_of : List ℕ → JournalTag
journal_tag_of block = record {
  blocknr = big_number_at 0x0 4 block;
  checksum = big_number_at 0x4 2 block;
  flags = big_number_at 0x6 2 block;
}

-- all fields, in the order of their places
abbrev pub journal_tag_fields : List Field
journal_tag_fields =
    field 0x0 4 ∷ field 0x4 2 ∷ field 0x6 2 ∷ []

-- their numbers, in the same order
abbrev pub journal_tag_numbers : JournalTag → List ℕ
journal_tag_numbers x =
    x.blocknr ∷ x.checksum ∷ x.flags ∷ []
