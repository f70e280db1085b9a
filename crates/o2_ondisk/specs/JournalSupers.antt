-- The fields of a journal's superblock.
use Rattle.std.specs.Prelude.{ℕ, List, [], ◌∷◌}
use Rattle.o2_ondisk.specs.Number.{big_number_at}
use Rattle.o2_ondisk.specs.Fields.{field}
use Rattle.o2_ondisk.specs.declared.layout.Field.{Field}
use Rattle.o2_ondisk.specs.declared.journal_super.JournalSuper.{JournalSuper}

-- what the bytes say
abbrev pub journal_super_of : List ℕ → JournalSuper
journal_super_of block = record {
  magic = big_number_at 0x0 4 block;
  blocktype = big_number_at 0x4 4 block;
  blocksize = big_number_at 0xc 4 block;
  maxlen = big_number_at 0x10 4 block;
  first = big_number_at 0x14 4 block;
  sequence = big_number_at 0x18 4 block;
  start = big_number_at 0x1c 4 block;
  feature_compat = big_number_at 0x24 4 block;
  feature_incompat = big_number_at 0x28 4 block;
  feature_ro_compat = big_number_at 0x2c 4 block;
  nr_users = big_number_at 0x40 4 block;
}

-- all fields, in the order of their places
abbrev pub journal_super_fields : List Field
journal_super_fields =
    field 0x0 4 ∷ field 0x4 4 ∷ field 0xc 4 ∷ field 0x10 4 ∷ field 0x14 4 ∷ field 0x18 4 ∷ field 0x1c 4 ∷ field 0x24 4 ∷ field 0x28 4 ∷ field 0x2c 4 ∷ field 0x40 4 ∷ []

-- their numbers, in the same order
abbrev pub journal_super_numbers : JournalSuper → List ℕ
journal_super_numbers x =
    x.magic ∷ x.blocktype ∷ x.blocksize ∷ x.maxlen ∷ x.first ∷ x.sequence ∷ x.start ∷ x.feature_compat ∷ x.feature_incompat ∷ x.feature_ro_compat ∷ x.nr_users ∷ []
