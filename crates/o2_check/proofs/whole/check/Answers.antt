-- The skeleton first.
use Rattle.std.proofs.Common.{arith, ◌∙◌, subst}
use Rattle.std.proofs.lemmas.Result.{IfOk-weaker, IfErr-weaker}
use Rattle.o2_view.proofs.Shown.{still_shows, showed_before}
use Rattle.o2_extent.proofs.Views.{only_both, still_in}
use Rattle.o2_view.specs.OwnChecks.{ReadFails}
use Rattle.o2_view.specs.declared.fault.ReadFault.TheVariants as read
use Rattle.o2_skeleton.specs.Skeleton.{skeleton_checks}
use Rattle.o2_check.proofs.FirstPairs.{first_fails, not_both}
use Rattle.o2_check.proofs.WholeFails.{fails_before}
use Rattle.o2_check.proofs.whole.check.Goals as goal

pub check_further-requires : goal.check_further-requires
check_further-requires g c = (
  omega arith,
  (
    still_in c.in-Ok.ensures.lies c.judge_skeleton.ensures.reads,
    (λ v shows. c.in-Ok.ensures.told v (showed_before c.judge_skeleton.ensures.reads shows), λ v shows. c.in-Ok.ensures.tables v (showed_before c.judge_skeleton.ensures.reads shows)),
  ),
)

pub returns-in-Ok-clause-told : goal.returns-in-Ok-clause-told
returns-in-Ok-clause-told g c = IfOk-weaker c.check_further.result _ _ (λ report told v shows. told v (still_shows c.judge_skeleton.ensures.reads shows)) c.check_further.ensures.told

pub returns-in-Ok-clause-reads : goal.returns-in-Ok-clause-reads
returns-in-Ok-clause-reads g c = only_both c.judge_skeleton.ensures.reads c.check_further.ensures.reads

pub returns-in-Ok-clause-fails : goal.returns-in-Ok-clause-fails
returns-in-Ok-clause-fails g c = IfErr-weaker c.check_further.result _ _ (fails_before c.args.view.now c.judge_skeleton.new.view c.check_further.new.view c.args.geo.now c.judge_skeleton.ensures.reads) c.check_further.ensures.fails

pub returns-in_ok-first_alone-in-Err-Bad-clause-told : goal.returns-in_ok-first_alone-in-Err-Bad-clause-told
returns-in_ok-first_alone-in-Err-Bad-clause-told g c v shows =
    let bad : ReadFails c.args.view.now c.judge_skeleton.new.view c.args.geo.now skeleton_checks (read.Bad c.in-Err-Bad.check c.in-Err-Bad.block) =
    subst (ReadFails c.args.view.now c.judge_skeleton.new.view c.args.geo.now skeleton_checks) c.in-Err-Bad.field-0-is c.in-Err-Bad.ensures.fails in
    let fails = bad.first v shows in
    record {
      pairs = c.in_ok-first_alone-in-Err-Bad.ensures ∙ first_fails v c.in-Err-Bad.check c.in-Err-Bad.block fails;
      whole = λ holds. absurd (not_both v c.in-Err-Bad.check c.in-Err-Bad.block fails holds);
    }
