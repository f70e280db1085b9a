-- The bit at hand is clear and counted, or it is not.
use Rattle.std.proofs.Common.{◌<◌, not, ap, sym, ◌∙◌, arith}
use Rattle.o2_model.specs.Groups.{is_bit_set_in}
use Rattle.o2_judges_alloc.proofs.Ranges.{counted, not_counted}
use Rattle.o2_judges_alloc.proofs.free_bits.count_clear.Goals as goal

pub loop-k-preserved : goal.loop-k-preserved
loop-k-preserved c =
    let low : c.loop-k.k < c.args.bits = omega arith in
    elim c.if-not-has_bit.branch [
      | goal.then-not-has_bit w ↦
          let step = counted (λ k. not (is_bit_set_in 0 c.args.bitmap.now k)) c.loop-k.k c.args.bits low (ap not (sym c.has_bit.ensures ∙ w.if-not-has_bit.true)) in
          record { few = omega arith; count = omega (arith, step) }
      | goal.else-not-has_bit w ↦
          let step = not_counted (λ k. not (is_bit_set_in 0 c.args.bitmap.now k)) c.loop-k.k c.args.bits low (ap not (sym c.has_bit.ensures ∙ w.if-not-has_bit.false)) in
          record { few = omega arith; count = omega (arith, step) }
    ]
