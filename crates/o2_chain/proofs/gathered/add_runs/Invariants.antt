-- The clusters of the groups so far were added.
use Rattle.std.proofs.Common.{◌≡◌, ◌++◌, map, take}
use Rattle.o2_chain.specs.Whole.{run_of_group}
use Rattle.o2_chain.proofs.gathered.add_runs.Given as goal

abbrev pub invariant-loop-group : goal.invariant-loop-group
invariant-loop-group l = l.runs.items ≡ l.fn.runs.items ++ map (run_of_group l.geo) (take l.group-index l.met)
