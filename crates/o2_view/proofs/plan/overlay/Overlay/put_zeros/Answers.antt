-- No block of the run is left, so the zeros count there.
use Rattle.std.proofs.Common.{[], refl, sym, ◌∙◌, ap, subst}
use Rattle.o2_view.specs.Plans.{AreWhole, is_in_runs, planned_at}
use Rattle.o2_view.proofs.PlannedBlocks.{zeros_planned, same_planned}
use Rattle.o2_view.proofs.Spans.{is_in, is_out, runs_here, runs_other}
use Rattle.o2_view.proofs.plan.overlay.Overlay.put_zeros.Goals as goal

pub returns-clause-here : goal.returns-clause-here
returns-clause-here c size b inside =
    let in_run = is_in c.args.first c.args.count b inside in
    zeros_planned size (record { fresh = []; zeros = c.push.new.self; home = c.drop_blocks.new.blocks.entries }) b (c.drop_blocks.ensures.gone b in_run.0 in_run.1) refl
    (ap (λ runs. is_in_runs runs b) c.in_ok-push.ensures.ok ∙ runs_here c.self.inside.zeros c.args.first c.args.count b in_run.0 in_run.1)

pub returns-clause-others : goal.returns-clause-others
returns-clause-others c size b outside =
    same_planned size (record { fresh = []; zeros = c.push.new.self; home = c.drop_blocks.new.blocks.entries }) (record { fresh = []; zeros = c.self.inside.zeros; home = c.self.inside.blocks.entries }) b
    (c.drop_blocks.ensures.others b (is_out c.args.first c.args.count b outside)) refl (ap (λ runs. is_in_runs runs b) c.in_ok-push.ensures.ok ∙ runs_other c.self.inside.zeros c.args.first c.args.count b outside)
    ∙ ap (λ p. planned_at size p b) c.self.view_is

pub returns-clause-whole : goal.returns-clause-whole
returns-clause-whole c size whole =
    let before = subst (AreWhole size) (sym c.self.view_is) whole in
    record { fresh = before.fresh; home = c.drop_blocks.ensures.whole size before.home }
