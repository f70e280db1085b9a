-- No plan is closed.
use Rattle.std.proofs.Common.{◌∙◌, ap, ◌^◌}
use Rattle.o2_view.specs.Plans.{planned_at}
use Rattle.o2_view.proofs.PlannedBlocks.{none_planned}
use Rattle.o2_view.proofs.view.View.take_plan.Goals as goal

pub returns-clause-closed : goal.returns-clause-closed
returns-clause-closed g c b = ap (λ p. planned_at (2 ^ c.args.self.now.block_bits) p b) c.new.ensures ∙ none_planned (2 ^ c.args.self.now.block_bits) b
