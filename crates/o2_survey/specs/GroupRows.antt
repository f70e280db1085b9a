-- Rows of some groups, and the blocks of inodes among their bits.
use Rattle.std.specs.Prelude.{◌≡◌, ℕ, ◌+◌, ◌-◌, ◌%◌, ◌^◌, List, [], map, filter, if◌then◌else◌}
use Rattle.std.specs.List.{AllByRecursion, range_with_len}
use Rattle.o2_model.specs.declared.allocator.Group.{Group}
use Rattle.o2_model.specs.Volume.{Volume}
use Rattle.o2_model.specs.Allocators.{are_inodes}
use Rattle.o2_model.specs.Groups.{is_bit_set_in}
use Rattle.o2_tables.specs.Rows.{IsGroupRow}
use Rattle.o2_tables.specs.declared.groups.GroupRow.{GroupRow}

-- The rows are those of these groups, in order.
pub record AreGroupRows (v : Volume) (groups : List Group) (rows : List GroupRow) : Type 0 where
  pub listed : map (λ r. r.group) rows ≡ groups
  pub each : AllByRecursion (IsGroupRow v) rows

-- the number of 64 bits of the block that bit k stands for
abbrev pub block_at : GroupRow → ℕ → ℕ
block_at r k = (r.group.block + k) % 2 ^ 64

-- the blocks of the set bits above 0
abbrev pub blocks_on_bits : GroupRow → List ℕ
blocks_on_bits r = map (block_at r) (filter (λ k. is_bit_set_in 0 r.bitmap k) (range_with_len 1 (r.group.bits - 1)))

-- the same of a group of inodes; none of another
abbrev pub inode_blocks_of : GroupRow → List ℕ
inode_blocks_of r = if are_inodes r.group.of.bit_use then blocks_on_bits r else []
