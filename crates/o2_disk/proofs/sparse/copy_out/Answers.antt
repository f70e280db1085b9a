use Rattle.std.proofs.Common.{◌+◌, ◌-◌, ◌*◌, ◌∙◌, arith}
use Rattle.o2_disk.specs.Stored.{stored}
use Rattle.o2_disk.proofs.Copies.{copied_more}
use Rattle.o2_disk.proofs.sparse.copy_out.Goals as goal

pub loop-k-preserved : goal.loop-k-preserved
loop-k-preserved c =
    copied_more (stored c.args.map.now) c.args.at c.loop-k.k (512 * c.loop-k.k + 512 - 512 * c.loop-k.k) c.loop-k.out c.copy_from_slice.new.self
    (omega (arith, c.loop-k-test.true, c.loop-k.auto.out)) (omega arith) (omega (arith, c.copy_from_slice.ensures.len)) (c.copy_from_slice.ensures.after ∙ c.sector_at-bytes.ensures) c.loop-k.invariant
