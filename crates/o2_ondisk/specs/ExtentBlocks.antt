-- The fields of an extent block.
use Rattle.std.specs.Prelude.{ℕ, List, [], ◌∷◌}
use Rattle.o2_ondisk.specs.Number.{number_at}
use Rattle.o2_ondisk.specs.Fields.{field}
use Rattle.o2_ondisk.specs.declared.layout.Field.{Field}
use Rattle.o2_ondisk.specs.declared.extent_block.ExtentBlock.{ExtentBlock}

-- what the bytes say
abbrev pub extent_block_of : List ℕ → ExtentBlock
extent_block_of block = record {
  signature = record { 0 = number_at 0x0 8 block };
  suballoc_slot = number_at 0x10 2 block;
  suballoc_bit = number_at 0x12 2 block;
  fs_generation = number_at 0x14 4 block;
  blkno = number_at 0x18 8 block;
  suballoc_loc = number_at 0x20 8 block;
  next_leaf_blk = number_at 0x28 8 block;
}

-- all fields, in the order of their places
abbrev pub extent_block_fields : List Field
extent_block_fields =
    field 0x0 8 ∷ field 0x10 2 ∷ field 0x12 2 ∷ field 0x14 4 ∷ field 0x18 8 ∷ field 0x20 8 ∷ field 0x28 8 ∷ []

-- their numbers, in the same order
abbrev pub extent_block_numbers : ExtentBlock → List ℕ
extent_block_numbers x =
    x.signature.0 ∷ x.suballoc_slot ∷ x.suballoc_bit ∷ x.fs_generation ∷ x.blkno ∷ x.suballoc_loc
    ∷ x.next_leaf_blk ∷ []
