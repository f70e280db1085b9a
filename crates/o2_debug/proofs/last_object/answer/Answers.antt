-- The inode is sound, and of a kind that the query is for.
use Rattle.std.proofs.Common.{ℕ, subst, sym, refl, ◌∙◌, arith}
use Rattle.std.proofs.lemmas.Result.{IfErr-weaker, on_ok_weaker}
use Rattle.o2_extent.proofs.Views.{still_in}
use Rattle.o2_view.specs.OwnChecks.{NoneFails, FailsFirst}
use Rattle.o2_view.proofs.Shown.{still_shows, showed_before}
use Rattle.o2_debug.specs.Objects.{object_checks, query_checks}
use Rattle.o2_debug.proofs.AnswerLemmas.{asked_kind, answers_as, answers_some_as, begins_as, own_for}
use Rattle.o2_debug.proofs.Fails.{answer_fails}
use Rattle.o2_debug.proofs.Judged.{of_own_number}
use Rattle.o2_debug.proofs.last_object.answer.Goals as goal

pub put_answer-requires : goal.put_answer-requires
put_answer-requires g c = (
  omega arith,
  (
    still_in c.requires.inode.volume c.judge.ensures.reads,
    (
      c.in_ok-reading.ensures.fits,
      (
        λ v after. of_own_number v c.args.inode c.in_ok-reading.reading (c.in_ok-reading.ensures.told v (showed_before c.judge.ensures.reads after)).1,
        (
          λ v after.
              let told = c.in_ok-reading.ensures.told v (showed_before c.judge.ensures.reads after) in
              subst (λ (b : ℕ). NoneFails (object_checks b) v) (sym told.1.number) told.0,
          λ v after.
              let told = c.in_ok-reading.ensures.told v (showed_before c.judge.ensures.reads after) in
              let tells = of_own_number v c.args.inode c.in_ok-reading.reading told.1 in
              asked_kind v c.in_ok-reading.reading.inode c.in_ok-reading.reading.dinode tells.dinode c.args.query.now _ (sym c.is_for.ensures ∙ c.if-not-is_for.false),
        ),
      ),
    ),
  ),
)

pub returns-then-not-is_for-clause-fails : goal.returns-then-not-is_for-clause-fails
returns-then-not-is_for-clause-fails g c = (
  refl,
  λ v shows.
      let told = c.in_ok-reading.ensures.told v shows in
      record { sound = told.0; kind = asked_kind v c.args.inode c.in_ok-reading.reading.dinode told.1.dinode c.args.query.now _ (sym c.is_for.ensures ∙ c.if-not-is_for.true) },
)

pub returns-clause-told : goal.returns-clause-told
returns-clause-told g c = on_ok_weaker c.put_answer.result (λ answers v shows.
    answers_as c.args.query.now v c.in_ok-reading.reading.inode c.args.inode (c.in_ok-reading.ensures.told v shows).1.number (answers v (still_shows c.judge.ensures.reads shows))) c.put_answer.ensures.told

pub returns-clause-some : goal.returns-clause-some
returns-clause-some g c v shows =
    begins_as c.args.query.now v c.in_ok-reading.reading.inode c.args.inode (c.in_ok-reading.ensures.told v shows).1.number (c.put_answer.ensures.some v (still_shows c.judge.ensures.reads shows))

pub returns-clause-fails : goal.returns-clause-fails
returns-clause-fails g c = IfErr-weaker c.put_answer.result _ _
    (answer_fails c.put_answer.new.view c.args.geo.now (g.K.Sink.state c.args.out.now) (g.K.Sink.state c.put_answer.new.out) _ _ _ _ _ _ _ c.judge.ensures.reads
    (λ check own. own_for c.args.query.now c.in_ok-reading.reading.inode c.args.inode check own)
    (λ v shows check at fails. subst (λ (b : ℕ). FailsFirst (query_checks c.args.query.now b) v check at) (c.in_ok-reading.ensures.told v shows).1.number fails)
    (λ v shows some. answers_some_as c.args.query.now v c.in_ok-reading.reading.inode c.args.inode (c.in_ok-reading.ensures.told v shows).1.number some)
    (λ never. absurd never))
    c.put_answer.ensures.fails
