-- The inodes so far are those of the first entries.
use Rattle.std.proofs.Common.{length, take}
use Rattle.o2_model.specs.Volume.{Volume}
use Rattle.o2_view.specs.Counted.{CallsAtMost}
use Rattle.o2_view.specs.Views.{view_state, Shows, OnlyReads}
use Rattle.o2_survey.specs.SystemInodes.{AreSystemInodes, named_by}
use Rattle.o2_survey.proofs.named_inodes.system_inodes.Given as goal

abbrev pub invariant-loop-entry : goal.invariant-loop-entry
invariant-loop-entry g l = record {
  read : (v : Volume) → Shows l.fn.view l.geo v → AreSystemInodes v (named_by (take l.entry-index l.entries)) l.inodes;
  count : CallsAtMost (length (named_by (take l.entry-index l.entries))) (view_state l.fn.view) (view_state l.view);
  reads : OnlyReads l.fn.view l.view;
}
