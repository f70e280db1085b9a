-- The skeleton first.
use Rattle.std.proofs.Common.{arith}
use Rattle.o2_extent.proofs.Views.{only_both, still_in}
use Rattle.o2_view.proofs.Shown.{still_shows, showed_before}
use Rattle.o2_check.proofs.cluster_owners.owners.Goals as goal

pub owners_behind-requires : goal.owners_behind-requires
owners_behind-requires g c = (
  omega arith,
  (
    still_in c.in_ok-skeleton.ensures.lies c.judge_skeleton.ensures.reads,
    (λ v shows. c.in_ok-skeleton.ensures.tables v (showed_before c.judge_skeleton.ensures.reads shows), c.requires.within),
  ),
)

pub returns-clause-told : goal.returns-clause-told
returns-clause-told g c v shows = (c.in_ok-skeleton.ensures.told v shows, c.in_ok-owners_behind.ensures.told v (still_shows c.judge_skeleton.ensures.reads shows))

pub returns-clause-reads : goal.returns-clause-reads
returns-clause-reads g c = only_both c.judge_skeleton.ensures.reads c.owners_behind.ensures.reads
