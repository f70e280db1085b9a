-- The fields of a refcount block.
use Rattle.std.specs.Prelude.{ℕ, List, [], ◌∷◌}
use Rattle.o2_ondisk.specs.Number.{number_at}
use Rattle.o2_ondisk.specs.Fields.{field}
use Rattle.o2_ondisk.specs.declared.layout.Field.{Field}
use Rattle.o2_ondisk.specs.declared.refcount_block.RefcountBlock.{RefcountBlock}

-- what the bytes say
abbrev pub refcount_block_of : List ℕ → RefcountBlock
refcount_block_of block = record {
  signature = record { 0 = number_at 0x0 8 block };
  suballoc_slot = number_at 0x8 2 block;
  suballoc_bit = number_at 0xa 2 block;
  fs_generation = number_at 0xc 4 block;
  blkno = number_at 0x10 8 block;
  parent = number_at 0x18 8 block;
  last_eb_blk = number_at 0x28 8 block;
  count = number_at 0x30 4 block;
  flags = number_at 0x34 4 block;
  clusters = number_at 0x38 4 block;
  cpos = number_at 0x3c 4 block;
  generation = number_at 0x40 4 block;
  suballoc_loc = number_at 0x48 8 block;
}

-- all fields, in the order of their places
abbrev pub refcount_block_fields : List Field
refcount_block_fields =
    field 0x0 8 ∷ field 0x8 2 ∷ field 0xa 2 ∷ field 0xc 4 ∷ field 0x10 8 ∷ field 0x18 8 ∷ field 0x28 8 ∷ field 0x30 4 ∷ field 0x34 4 ∷ field 0x38 4 ∷ field 0x3c 4 ∷ field 0x40 4 ∷ field 0x48 8 ∷ []

-- their numbers, in the same order
abbrev pub refcount_block_numbers : RefcountBlock → List ℕ
refcount_block_numbers x =
    x.signature.0 ∷ x.suballoc_slot ∷ x.suballoc_bit ∷ x.fs_generation ∷ x.blkno ∷ x.parent ∷ x.last_eb_blk ∷ x.count ∷ x.flags ∷ x.clusters ∷ x.cpos ∷ x.generation ∷ x.suballoc_loc ∷ []
