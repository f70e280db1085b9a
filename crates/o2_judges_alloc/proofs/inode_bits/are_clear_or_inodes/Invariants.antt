-- The bits that are left decide.
use Rattle.std.proofs.Common.{◌≡◌, ◌-◌}
use Rattle.std.specs.List.{range_with_len, list_all}
use Rattle.o2_model.specs.Orders.{from_to}
use Rattle.o2_judges_alloc.specs.GroupRows.{may_have_inode}
use Rattle.o2_judges_alloc.proofs.inode_bits.are_clear_or_inodes.Given as goal

abbrev pub invariant-loop-k : goal.invariant-loop-k
invariant-loop-k l = list_all (may_have_inode l.inodes l.row) (range_with_len l.k (l.bits - l.k)) ≡ list_all (may_have_inode l.inodes l.row) (from_to 1 l.row.group.bits)
