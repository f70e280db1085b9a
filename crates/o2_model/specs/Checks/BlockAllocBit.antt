-- BLOCK_ALLOC_BIT, number 41, at the group of an extent_alloc: bit 0 is set, and of the others just those of blocks in use.
use Rattle.std.specs.Prelude.{ℕ, Bool, ◌&&◌, List, ◌++◌, flat_map, filter}
use Rattle.std.specs.Bool.{beq}
use Rattle.std.specs.List.{list_all}
use Rattle.o2_model.specs.declared.allocator.Group.{Group}
use Rattle.o2_model.specs.Words.{among}
use Rattle.o2_model.specs.Faults.{fails_at}
use Rattle.o2_model.specs.Orders.{from_to}
use Rattle.o2_model.specs.Volume.{Volume}
use Rattle.o2_model.specs.Allocators.{are_metadata}
use Rattle.o2_model.specs.Groups.{groups, is_bit_set, block_of_bit}
use Rattle.o2_model.specs.Metadata.{metadata_blocks}
use Rattle.o2_model.specs.Indexes.{index_blocks}
use Rattle.o2_model.specs.Checks.Dx.{directories_with_sound_index}

-- the blocks in use: extent blocks, refcount blocks, and the blocks of indexes that hold
unfoldable pub blocks_in_use : Volume → List ℕ
blocks_in_use v = metadata_blocks v ++ flat_map (index_blocks v) (directories_with_sound_index v)

unfoldable pub has_bits_of_blocks : Volume → Group → Bool
has_bits_of_blocks v g =
    is_bit_set v g.block 0
    && list_all (λ k. beq (is_bit_set v g.block k) (among (blocks_in_use v) (block_of_bit v g k))) (from_to 1 g.bits)

abbrev pub block_alloc_bit_faults : Volume → List ℕ
block_alloc_bit_faults v = fails_at (λ g. g.block) (has_bits_of_blocks v) (filter (λ g. are_metadata g.of.bit_use) (groups v))
