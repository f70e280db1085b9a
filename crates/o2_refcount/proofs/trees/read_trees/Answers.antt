-- One tree more.
use Rattle.std.proofs.Common.{sym, subst}
use Rattle.std.proofs.lemmas.List.{take_more, take_all}
use Rattle.o2_view.proofs.Shown.{still_shows}
use Rattle.o2_extent.proofs.Views.{only_none, only_both}
use Rattle.o2_refcount.specs.TreeReadings.{AreTreesRead}
use Rattle.o2_refcount.proofs.trees.read_trees.Goals as goal

pub loop-root-init : goal.loop-root-init
loop-root-init g c = record {
  read = λ v shows. c.start_survey-survey.ensures v;
  reads = only_none c.args.view.now;
}

pub loop-root-preserved : goal.loop-root-preserved
loop-root-preserved g c = record {
  read = λ v shows.
      subst (λ those. AreTreesRead v those c.add_root.new.survey) (sym (take_more c.args.roots.now c.loop-root.root-index 0 c.loop-root-test.true))
      (c.in_ok-add_root.ensures.added v (still_shows c.loop-root.invariant.reads shows) _ (c.loop-root.invariant.read v shows));
  reads = only_both c.loop-root.invariant.reads c.add_root.ensures.reads;
}

pub returns-clause-read : goal.returns-clause-read
returns-clause-read g c v shows =
    subst (λ those. AreTreesRead v those c.loop-root.survey) (take_all c.loop-root.root-index c.args.roots.now c.loop-root-test.false) (c.loop-root.invariant.read v shows)
