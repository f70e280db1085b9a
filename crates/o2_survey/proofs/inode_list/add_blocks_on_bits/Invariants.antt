-- The blocks so far, and those of the bits that are left.
use Rattle.std.proofs.Common.{◌≡◌, ◌-◌, ◌++◌, map, filter}
use Rattle.std.specs.List.{range_with_len}
use Rattle.o2_model.specs.Groups.{is_bit_set_in}
use Rattle.o2_survey.specs.GroupRows.{block_at, blocks_on_bits}
use Rattle.o2_survey.proofs.inode_list.add_blocks_on_bits.Given as goal

abbrev pub invariant-loop-k : goal.invariant-loop-k
invariant-loop-k l =
    l.found.items ++ map (block_at l.row) (filter (λ k. is_bit_set_in 0 l.row.bitmap k) (range_with_len l.k (l.row.group.bits - l.k)))
    ≡ l.fn.found.items ++ blocks_on_bits l.row
