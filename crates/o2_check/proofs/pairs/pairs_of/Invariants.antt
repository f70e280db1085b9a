-- The checks so far are told.
use Rattle.std.proofs.Common.{◌≡◌, take}
use Rattle.o2_model.specs.Volume.{Volume}
use Rattle.o2_model.specs.Failing.{pairs}
use Rattle.o2_skeleton.specs.Skeleton.{HasSkeleton}
use Rattle.o2_check.specs.Findings.{AreFindings}
use Rattle.o2_check.proofs.pairs.pairs_of.Given as goal

abbrev pub invariant-loop-check : goal.invariant-loop-check
invariant-loop-check l = (v : Volume) → v.geo ≡ l.geo → HasSkeleton v → AreFindings v l.findings → l.told.items ≡ pairs v (take l.check-index l.checks)
