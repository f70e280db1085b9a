-- The survey so far tells the valid dinodes among the first blocks.
use Rattle.std.proofs.Common.{filter, take}
use Rattle.o2_model.specs.Volume.{Volume, is_valid}
use Rattle.o2_view.specs.Views.{Shows, OnlyReads}
use Rattle.o2_tree.specs.TreeWalks.{AreOwn}
use Rattle.o2_inodes.specs.InodeSurveys.{TellsInodes}
use Rattle.o2_inodes.proofs.survey.inodes.Given as goal

abbrev pub invariant-loop-b : goal.invariant-loop-b
invariant-loop-b g l = record {
  tells : (v : Volume) → Shows l.fn.view l.geo v → AreOwn v l.own → TellsInodes v (filter (is_valid v) (take l.b-index l.blocks)) l.survey;
  reads : OnlyReads l.fn.view l.view;
}
