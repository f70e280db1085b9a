-- The blocks that the iterator still gives are to be laid.
use Rattle.o2_view.proofs.Laid.{AreLaid}
use Rattle.o2_view.proofs.plan.overlay.Overlay.lay_home.Given as goal

abbrev pub invariant-loop-b : goal.invariant-loop-b
invariant-loop-b l = (goal.iterator-loop-b).can_next l.b-iterator × (goal.iterator-loop-b).is_finite l.b-iterator × AreLaid l.plan.home l.b-iterator l.fn.self l.self
