-- A bit in the mask, and one outside.
use Rattle.std.proofs.Common.{◌-◌, ◌^◌, ◌/◌, ◌%◌, ◌==◌, bit_and, bit_or, sym, ◌∙◌, ap}
use Rattle.o2_chain.specs.Bits.{changed_bits}
use Rattle.o2_chain.proofs.Bitmaps.{set_bits, cleared_bits}
use Rattle.o2_chain.proofs.bits.with_bits.Goals as goal

pub returns-then-set : goal.returns-then-set
returns-then-set c k low =
    ap (λ m. bit_or c.args.byte m / 2 ^ k % 2 == 1) c.mask-mask.ensures
    ∙ (set_bits c.args.byte c.args.first c.args.end k ∙ ap (λ set. changed_bits c.args.first c.args.end set (λ j. c.args.byte / 2 ^ j % 2 == 1) k) (sym c.if-set.true))

pub returns-else-set : goal.returns-else-set
returns-else-set c k low =
    ap (λ m. bit_and c.args.byte (255 - m) / 2 ^ k % 2 == 1) c.mask-mask.ensures
    ∙ (cleared_bits c.args.byte c.args.first c.args.end c.ranges.byte.fits c.requires.order c.requires.within k low ∙ ap (λ set. changed_bits c.args.first c.args.end set (λ j. c.args.byte / 2 ^ j % 2 == 1) k) (sym c.if-set.false))
