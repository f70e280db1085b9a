-- What was counted, and what is counted of the bits that are left.
use Rattle.std.proofs.Common.{◌≡◌, ◌+◌, ◌-◌, ◌≤◌, not, count_by}
use Rattle.std.specs.List.{range_with_len}
use Rattle.o2_model.specs.Groups.{is_bit_set_in}
use Rattle.o2_judges_alloc.proofs.free_bits.count_clear.Given as goal

abbrev pub invariant-loop-k : goal.invariant-loop-k
invariant-loop-k l = record {
  few : l.clear ≤ l.k;
  count : l.clear + count_by (λ k. not (is_bit_set_in 0 l.bitmap k)) (range_with_len l.k (l.bits - l.k)) ≡ count_by (λ k. not (is_bit_set_in 0 l.bitmap k)) (range_with_len 0 l.bits);
}
