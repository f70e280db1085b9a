-- The runs behind the loop's place are still to be laid.
use Rattle.std.proofs.Common.{drop}
use Rattle.o2_view.proofs.Laid.{AreCleared}
use Rattle.o2_view.proofs.plan.overlay.Overlay.lay_zeros.Given as goal

abbrev pub invariant-loop-first : goal.invariant-loop-first
invariant-loop-first l = AreCleared l.plan.zeros (drop l.first-index l.first-items) l.fn.self l.self
