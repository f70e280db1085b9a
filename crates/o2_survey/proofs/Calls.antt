-- How many calls two stretches have together.
use Rattle.std.proofs.Common.{ℕ, ◌+◌, ◌≤◌, ◌∙◌, arith}
use Rattle.o2_disk.specs.Device.{DiskState, ReadsOnly}
use Rattle.o2_view.specs.Counted.{CallsAtMost}

pub calls_more : (n m : ℕ) (old mid new : DiskState) → ReadsOnly old mid → CallsAtMost n old mid → CallsAtMost m mid new → CallsAtMost (n + m) old new
calls_more n m old mid new reads before more I told = omega (arith, before I told, more I (reads.content ∙ told))

pub calls_fewer : (n m : ℕ) (old new : DiskState) → n ≤ m → CallsAtMost n old new → CallsAtMost m old new
calls_fewer n m old new few calls I told = omega (arith, few, calls I told)
