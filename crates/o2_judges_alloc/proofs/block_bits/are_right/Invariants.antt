-- The bits that are left decide.
use Rattle.std.proofs.Common.{◌≡◌, ◌-◌}
use Rattle.std.specs.List.{range_with_len, list_all}
use Rattle.o2_model.specs.Orders.{from_to}
use Rattle.o2_judges_alloc.specs.GroupRows.{is_set_for_use}
use Rattle.o2_judges_alloc.proofs.block_bits.are_right.Given as goal

abbrev pub invariant-loop-k : goal.invariant-loop-k
invariant-loop-k l = list_all (is_set_for_use l.in_use l.row) (range_with_len l.k (l.bits - l.k)) ≡ list_all (is_set_for_use l.in_use l.row) (from_to 1 l.row.group.bits)
