-- One byte more.
use Rattle.std.proofs.Common.{◌≡◌, ◌≢◌, ℕ, ◌+◌, ◌-◌, ◌*◌, ◌/◌, ◌%◌, ◌^◌, ◌==◌, min, get_or, get_or-set_other, ◌∙◌, ap, arith}
use Rattle.o2_model.specs.Groups.{is_bit_set_in}
use Rattle.o2_chain.specs.Bits.{changed_bits}
use Rattle.o2_chain.proofs.Bitmaps.{byte_more}
use Rattle.o2_chain.proofs.bits.change_bits.Goals as goal

pub loop-i-preserved : goal.loop-i-preserved
loop-i-preserved c =
    let i = c.loop-i.i in
    let old = λ (j : ℕ). get_or c.loop-i.bytes (0x40 + i) 0 / 2 ^ j % 2 == 1 in
    let first : c.min-first.result ≡ min (c.args.range.first - 8 * i) 8 = c.min-first.ensures ∙ ap (λ n. min n 8) c.saturating_sub.ensures in
    record {
      bits = byte_more c.loop-i.bytes (is_bit_set_in 0x40 c.args.bytes.now) c.args.range.first c.args.range.end i c.with_bits.result c.args.set (omega arith) c.loop-i.invariant.bits
          (λ k low. c.with_bits.ensures k low ∙ (ap (λ n. changed_bits n c.min-end.result c.args.set old k) first ∙ ap (λ n. changed_bits (min (c.args.range.first - 8 * i) 8) n c.args.set old k) c.min-end.ensures));
      others = λ k low. let other : k ≢ 0x40 + i = omega (arith, low) in get_or-set_other c.loop-i.bytes (0x40 + i) k c.with_bits.result 0 other ∙ c.loop-i.invariant.others k low;
    }
