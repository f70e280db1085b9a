-- The inode that the path leads to is a valid dinode, and there is no other.
use Rattle.std.proofs.Common.{inl, inr, refl, ◌∙◌, arith}
use Rattle.std.proofs.lemmas.Result.{IfErr-weaker, on_ok_weaker}
use Rattle.o2_extent.proofs.Views.{still_in, only_both}
use Rattle.o2_view.proofs.Shown.{still_shows, showed_before}
use Rattle.o2_debug.specs.Answers.{text_of}
use Rattle.o2_debug.proofs.AtPath.{leads_to_valid, same_beginning, answer_text}
use Rattle.o2_debug.proofs.Fails.{path_fails, end_fails}
use Rattle.o2_debug.proofs.at_path.answer_at_path.Goals as goal

pub answer-requires : goal.answer-requires
answer-requires g c = (
  omega arith,
  (
    record { volume = still_in c.requires.geo c.path.ensures.reads; inside = omega (arith, c.in_ok-inode.ensures.inside, c.path.ensures.reads.same.blocks) },
    λ v after.
        let shows = showed_before c.path.ensures.reads after in
        leads_to_valid c.args.query.now v c.in_ok-inode.inode c.requires.path (c.requires.start v shows)
        (λ start names begins. c.in_ok-inode.ensures.leads v shows start names (same_beginning c.args.query.now v c.args.geo.now c.as_bytes.result.now start names shows.numbers (c.as_bytes.ensures ∙ c.path-text.ensures) begins)),
  ),
)

pub returns-in_err-inode-clause-fails : goal.returns-in_err-inode-clause-fails
returns-in_err-inode-clause-fails g c =
    path_fails c.from_residual.result c.args.view.now c.path.new.view c.args.geo.now c.args.query.now c.as_bytes.result.now (g.K.Sink.state c.args.out.now) _ refl (c.as_bytes.ensures ∙ c.path-text.ensures) c.in_err-inode.field-0.0 c.in_err-inode.ensures.fails
    c.from_residual.ensures.1

pub returns-clause-told : goal.returns-clause-told
returns-clause-told g c =
    on_ok_weaker c.answer.result (λ answers v shows.
    let done = answers v (still_shows c.path.ensures.reads shows) in (
      text_of c.args.query.now v c.in_ok-inode.inode,
      (
        answer_text c.args.query.now v c.in_ok-inode.inode
            (λ start names begins. c.in_ok-inode.ensures.leads v shows start names (same_beginning c.args.query.now v c.args.geo.now c.as_bytes.result.now start names shows.numbers (c.as_bytes.ensures ∙ c.path-text.ensures) begins))
            done.answered,
        done.taken,
      ),
    )) c.answer.ensures.told

pub returns-clause-some : goal.returns-clause-some
returns-clause-some g c v shows =
    elim (c.answer.ensures.some v (still_shows c.path.ensures.reads shows)) [
      | inl nothing ↦ inl nothing
      | inr put ↦ inr (
        text_of c.args.query.now v c.in_ok-inode.inode,
        (
          answer_text c.args.query.now v c.in_ok-inode.inode
              (λ start names begins. c.in_ok-inode.ensures.leads v shows start names (same_beginning c.args.query.now v c.args.geo.now c.as_bytes.result.now start names shows.numbers (c.as_bytes.ensures ∙ c.path-text.ensures) begins))
              put.answered,
          put.some,
        ),
      )
    ]

pub returns-clause-fails : goal.returns-clause-fails
returns-clause-fails g c = IfErr-weaker c.answer.result _ _
    (end_fails c.answer.new.view c.args.geo.now c.args.query.now (g.K.Sink.state c.args.out.now) (g.K.Sink.state c.answer.new.out) _ c.in_ok-inode.inode c.path.ensures.reads
    (λ v shows start names begins. c.in_ok-inode.ensures.leads v shows start names (same_beginning c.args.query.now v c.args.geo.now c.as_bytes.result.now start names shows.numbers (c.as_bytes.ensures ∙ c.path-text.ensures) begins)))
    c.answer.ensures.fails

pub returns-clause-reads : goal.returns-clause-reads
returns-clause-reads g c = only_both c.path.ensures.reads c.answer.ensures.reads
