-- The lines of the pairs, and then the verdict.
use Rattle.std.proofs.Common.{length}
use Rattle.std.proofs.lemmas.Result.{on_ok_weaker}
use Rattle.o2_cause.proofs.Fronts.{takes_both, some_of_next, some_of_both}
use Rattle.o2_fsck.specs.Reports.{verdict_line}
use Rattle.o2_fsck.proofs.report.put_report.Goals as goal

pub returns-in_err-put_pairs-clause-some : goal.returns-in_err-put_pairs-clause-some
returns-in_err-put_pairs-clause-some g c = some_of_both (verdict_line (length c.args.pairs.now)) c.in_err-put_pairs.ensures.some

pub returns-clause-told : goal.returns-clause-told
returns-clause-told g c = on_ok_weaker c.put_verdict.result (λ verdict. takes_both c.in_ok-put_pairs.ensures.told verdict) c.put_verdict.ensures.told

pub returns-clause-some : goal.returns-clause-some
returns-clause-some g c = some_of_next c.in_ok-put_pairs.ensures.told c.put_verdict.ensures.some
