-- GROUP_FREE_BITS, number 44, at the group: bg_free_bits_count is the number of clear bits among its bits.
use Rattle.std.specs.Prelude.{ℕ, Bool, not, ◌==◌, List, count_by}
use Rattle.std.specs.List.{range_with_len}
use Rattle.o2_model.specs.declared.allocator.Group.{Group}
use Rattle.o2_model.specs.Faults.{fails_at}
use Rattle.o2_model.specs.Volume.{Volume}
use Rattle.o2_model.specs.Groups.{groups, group_desc, is_bit_set}

unfoldable pub has_free_bits : Volume → Group → Bool
has_free_bits v g =
    (group_desc v g.block).free_bits_count == count_by (λ k. not (is_bit_set v g.block k)) (range_with_len 0 g.bits)

abbrev pub group_free_bits_faults : Volume → List ℕ
group_free_bits_faults v = fails_at (λ g. g.block) (has_free_bits v) (groups v)
