-- The bits of the bytes so far are changed.
use Rattle.std.proofs.Common.{◌≡◌, ℕ, ◌*◌, ◌<◌, min, get_or}
use Rattle.o2_model.specs.Groups.{is_bit_set_in}
use Rattle.o2_chain.specs.Bits.{changed_bits}
use Rattle.o2_chain.proofs.bits.change_bits.Given as goal

abbrev pub invariant-loop-i : goal.invariant-loop-i
invariant-loop-i l = record {
  bits : (k : ℕ) → is_bit_set_in 0x40 l.bytes k ≡ changed_bits l.range.first (min l.range.end (8 * l.i)) l.set (is_bit_set_in 0x40 l.fn.bytes) k;
  others : (i : ℕ) → i < 0x40 → get_or l.bytes i 0 ≡ get_or l.fn.bytes i 0;
}
