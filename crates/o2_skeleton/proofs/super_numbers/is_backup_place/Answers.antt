-- The one at hand is not it.
use Rattle.std.proofs.Common.{◌<◌, sym, ◌∙◌, arith}
use Rattle.o2_skeleton.proofs.Backups.{shifted, not_here}
use Rattle.o2_skeleton.proofs.super_numbers.is_backup_place.Goals as goal

pub loop-k-preserved : goal.loop-k-preserved
loop-k-preserved c =
    let low : c.loop-k.k < 6 = omega (arith, c.loop-k-test.true) in
    sym (not_here c.args.cluster_bits c.args.cluster c.loop-k.k low (λ is. c.if-cluster-k.false (is ∙ sym (shifted c.args.cluster_bits c.loop-k.k c.requires low)))) ∙ c.loop-k.invariant
