-- The clear bits of the bytes so far are added.
use Rattle.std.proofs.Common.{◌*◌}
use Rattle.std.specs.Prelude.{not, min}
use Rattle.o2_model.specs.Groups.{is_bit_set_in}
use Rattle.o2_view.specs.RunLists.{Gains}
use Rattle.o2_chain.proofs.clear_bits.add_clear.Given as goal

abbrev pub invariant-loop-i : goal.invariant-loop-i
invariant-loop-i l = Gains (λ k. not (is_bit_set_in 0x40 l.block k)) l.first (min (8 * l.i) l.bits) l.fn.runs l.runs
