-- The indexes judged in their order are those that the check asks.
use Rattle.std.proofs.lemmas.Result.{IfOk-weaker}
use Rattle.o2_judges_index.proofs.Judged.{judged_all}
use Rattle.o2_judges_index.proofs.judge.dx.Goals as goal

pub returns-clause-told : goal.returns-clause-told
returns-clause-told c = IfOk-weaker c.judge_indexes.result _ _
    (λ judged so v all groups inodes trees indexes are. judged_all v _ judged _ indexes (so v (c.in_ok-uses.ensures v groups inodes trees indexes) indexes all are)) c.judge_indexes.ensures.told
