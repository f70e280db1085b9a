-- The blocks behind the loop's place are still to be laid.
use Rattle.std.proofs.Common.{drop}
use Rattle.o2_view.proofs.Laid.{AreLaid}
use Rattle.o2_view.proofs.plan.overlay.Overlay.lay_fresh.Given as goal

abbrev pub invariant-loop-b : goal.invariant-loop-b
invariant-loop-b l = AreLaid l.plan.fresh (drop l.b-index l.b-items) l.fn.self l.self
