-- The clusters of the runs so far were counted.
use Rattle.std.proofs.Common.{take}
use Rattle.o2_tally.specs.Gathered.{IsCount}
use Rattle.o2_judges_index.specs.IndexRows.{clusters_of_runs}
use Rattle.o2_judges_index.proofs.own_clusters.counts_of_runs.Given as goal

abbrev pub invariant-loop-run : goal.invariant-loop-run
invariant-loop-run l = IsCount (clusters_of_runs (take l.run-index l.runs)) l.counts
