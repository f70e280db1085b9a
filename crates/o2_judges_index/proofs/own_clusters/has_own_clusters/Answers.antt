-- What is counted tells it.
use Rattle.std.proofs.Common.{◌∙◌}
use Rattle.o2_judges_index.proofs.ClustersTold.{counted_is}
use Rattle.o2_judges_index.proofs.own_clusters.has_own_clusters.Goals as goal

pub returns : goal.returns
returns c = c.are_own_in_runs.ensures ∙ counted_is c.args.claims.now _ c.args.runs.now c.in_ok-counts.ensures
