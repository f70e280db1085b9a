-- The first clusters of the run were counted.
use Rattle.std.proofs.Common.{◌++◌, ℕ, List}
use Rattle.std.specs.List.{range_with_len}
use Rattle.o2_tally.specs.Gathered.{IsCount}
use Rattle.o2_judges_index.proofs.own_clusters.count_run.Given as goal

abbrev pub invariant-loop-k : goal.invariant-loop-k
invariant-loop-k l = (ns : List ℕ) → IsCount ns l.fn.counts → IsCount (ns ++ range_with_len l.run.start l.k) l.counts
