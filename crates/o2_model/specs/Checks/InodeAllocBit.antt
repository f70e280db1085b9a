-- INODE_ALLOC_BIT, number 11, at the group of inodes: bit 0 is set, and each further set bit stands for an inode.
use Rattle.std.specs.Prelude.{ℕ, Bool, ◌&&◌, ◌||◌, not, List, filter}
use Rattle.std.specs.List.{list_all}
use Rattle.o2_model.specs.declared.allocator.Group.{Group}
use Rattle.o2_model.specs.Faults.{fails_at}
use Rattle.o2_model.specs.Orders.{from_to}
use Rattle.o2_model.specs.Volume.{Volume}
use Rattle.o2_model.specs.Allocators.{are_inodes}
use Rattle.o2_model.specs.Groups.{groups, is_bit_set, block_of_bit, is_inode}

unfoldable pub has_inodes_at_bits : Volume → Group → Bool
has_inodes_at_bits v g =
    is_bit_set v g.block 0
    && list_all (λ k. not (is_bit_set v g.block k) || is_inode v (block_of_bit v g k)) (from_to 1 g.bits)

abbrev pub inode_alloc_bit_faults : Volume → List ℕ
inode_alloc_bit_faults v = fails_at (λ g. g.block) (has_inodes_at_bits v) (filter (λ g. are_inodes g.of.bit_use) (groups v))
