-- The runs are those of the groups so far, and end where the last of these does or before.
use Rattle.std.proofs.Common.{◌≡◌, ℕ, ◌+◌, ◌≤◌, true, map, take, get_or}
use Rattle.o2_model.specs.Volume.{Volume}
use Rattle.o2_view.specs.Counted.{CallsAtMost}
use Rattle.o2_view.specs.Views.{view_state, Shows, OnlyReads}
use Rattle.o2_chain.specs.FreeGroups.{first_cluster}
use Rattle.o2_view.specs.FreeRuns.{is_of_runs}
use Rattle.o2_chain.specs.FreeRuns.{is_free}
use Rattle.o2_view.specs.RunLists.{end_of_runs}
use Rattle.o2_chain.specs.Walks.{judged_as, group_in}
use Rattle.o2_chain.specs.declared.group.Group.{Group}
use Rattle.o2_chain.proofs.free_clusters.free_runs.Given as goal

abbrev pub invariant-loop-group : goal.invariant-loop-group
invariant-loop-group g l = record {
  told : (v : Volume) → Shows l.fn.view l.geo v → (c : ℕ) → is_of_runs l.runs c ≡ is_free v (map (group_in (judged_as true 0)) (take l.group-index l.group-items)) c;
  behind : end_of_runs l.runs ≤ l.end;
  start : l.group-index ≡ 0 → l.end ≡ 0;
  last : (i : ℕ) (d : Group) → l.group-index ≡ i + 1 → l.end ≡ first_cluster l.geo (get_or l.group-items i d).block + (get_or l.group-items i d).bits;
  count : CallsAtMost l.group-index (view_state l.fn.view) (view_state l.view);
  reads : OnlyReads l.fn.view l.view;
}
