-- The rows so far are those of the first groups, each read by one call.
use Rattle.std.proofs.Common.{◌≡◌, map, filter, take}
use Rattle.o2_model.specs.Structures.{is_discontiguous}
use Rattle.o2_model.specs.Volume.{Volume}
use Rattle.o2_view.specs.Counted.{CallsAtMost}
use Rattle.o2_view.specs.Views.{view_state, Shows, OnlyReads}
use Rattle.o2_survey.specs.GroupRows.{AreGroupRows}
use Rattle.o2_survey.proofs.group_table.survey.Given as goal

abbrev pub invariant-loop-group : goal.invariant-loop-group
invariant-loop-group g l = record {
  rows : (v : Volume) → Shows l.fn.view l.geo v → AreGroupRows v (take l.group-index l.groups) l.rows.items;
  blocks : (v : Volume) → Shows l.fn.view l.geo v → l.discontiguous.items ≡ filter (is_discontiguous v) (map (λ g. g.block) (take l.group-index l.groups));
  count : CallsAtMost l.group-index (view_state l.fn.view) (view_state l.view);
  reads : OnlyReads l.fn.view l.view;
}
