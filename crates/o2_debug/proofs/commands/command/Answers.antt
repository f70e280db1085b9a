-- The query is answered where the skeleton is sound, on what the judge left of the view.
use Rattle.std.proofs.Common.{◌≡◌, inl, inr, refl, arith}
use Rattle.std.proofs.lemmas.Result.{IfErr-weaker, on_ok_weaker}
use Rattle.o2_extent.proofs.Views.{still_in, only_both}
use Rattle.o2_view.specs.Views.{view_state}
use Rattle.o2_view.proofs.Shown.{still_shows, showed_before}
use Rattle.o2_debug.proofs.Fails.{judge_fails, skeleton_fails}
use Rattle.o2_debug.proofs.commands.command.Goals as goal

pub answer_query-requires : goal.answer_query-requires
answer_query-requires g c = (
  omega arith,
  (
    still_in c.in_ok-skeleton.ensures.lies c.judge_skeleton.ensures.reads,
    (
      λ v after. c.in_ok-skeleton.ensures.told v (showed_before c.judge_skeleton.ensures.reads after),
      (λ v after. c.in_ok-skeleton.ensures.tables v (showed_before c.judge_skeleton.ensures.reads after), c.requires.path),
    ),
  ),
)

pub returns-clause-told : goal.returns-clause-told
returns-clause-told g c = on_ok_weaker c.answer_query.result (λ answers v shows. (c.in_ok-skeleton.ensures.told v shows, answers v (still_shows c.judge_skeleton.ensures.reads shows))) c.answer_query.ensures.told

pub returns-clause-some : goal.returns-clause-some
returns-clause-some g c v shows =
    elim (c.answer_query.ensures.some v (still_shows c.judge_skeleton.ensures.reads shows)) [
      | inl nothing ↦ inl nothing
      | inr some ↦ inr (c.in_ok-skeleton.ensures.told v shows, some)
    ]

pub returns-clause-fails : goal.returns-clause-fails
returns-clause-fails g c = IfErr-weaker c.answer_query.result _ _
    (skeleton_fails _ _ (view_state c.args.view.now) (view_state c.judge_skeleton.new.view) (view_state c.answer_query.new.view) c.args.query.now (g.K.Sink.state c.args.out.now) (g.K.Sink.state c.answer_query.new.out) _ c.judge_skeleton.ensures.reads.later
    (λ v shows. still_shows c.judge_skeleton.ensures.reads shows) c.in_ok-skeleton.ensures.told)
    c.answer_query.ensures.fails

pub returns-in_err-skeleton-clause-fails : goal.returns-in_err-skeleton-clause-fails
returns-in_err-skeleton-clause-fails g c =
    judge_fails c.args.view.now c.judge_skeleton.new.view c.args.geo.now c.args.query.now (g.K.Sink.state c.args.out.now) (c.args.out.now ≡ c.args.out.now) refl c.from_residual.result c.in_err-skeleton.field-0.0 c.in_err-skeleton.ensures.fails c.from_residual.ensures.1

pub returns-clause-reads : goal.returns-clause-reads
returns-clause-reads g c = only_both c.judge_skeleton.ensures.reads c.answer_query.ensures.reads
