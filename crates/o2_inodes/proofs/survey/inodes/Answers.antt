-- One block more.
use Rattle.std.proofs.Common.{filter, ℕ, List, ◌∙◌, ap, subst}
use Rattle.std.proofs.lemmas.List.{take_all}
use Rattle.o2_model.specs.Volume.{is_valid}
use Rattle.o2_view.proofs.Shown.{still_shows}
use Rattle.o2_extent.proofs.Views.{only_none, only_both}
use Rattle.o2_inodes.specs.InodeSurveys.{TellsInodes}
use Rattle.o2_inodes.proofs.DirectoriesTold.{directory_table}
use Rattle.o2_inodes.proofs.IndexesTold.{index_table}
use Rattle.o2_inodes.proofs.Surveyed.{one_asked, all_inodes}
use Rattle.o2_inodes.proofs.survey.inodes.Goals as goal

pub loop-b-init : goal.loop-b-init
loop-b-init g c = record { tells = λ v shows own. c.nothing_surveyed-survey.ensures v; reads = only_none c.args.view.now }

pub returns-in_err-add_inode-clause-reads : goal.returns-in_err-add_inode-clause-reads
returns-in_err-add_inode-clause-reads g c = only_both c.loop-b.invariant.reads c.add_inode.ensures.reads

pub loop-b-preserved : goal.loop-b-preserved
loop-b-preserved g c = record {
  tells = λ v shows own.
      subst (λ (bs : List ℕ). TellsInodes v bs c.add_inode.new.survey) (one_asked (is_valid v) c.args.blocks.now c.loop-b.b-index c.loop-b-test.true)
      (c.in_ok-add_inode.ensures.told v (still_shows c.loop-b.invariant.reads shows) own _ (c.loop-b.invariant.tells v shows own));
  reads = only_both c.loop-b.invariant.reads c.add_inode.ensures.reads;
}

pub returns-clause-told : goal.returns-clause-told
returns-clause-told g c v shows are own =
    subst (λ (bs : List ℕ). TellsInodes v bs c.loop-b.survey)
    (ap (filter (is_valid v)) (take_all c.loop-b.b-index c.args.blocks.now c.loop-b-test.false) ∙ all_inodes v c.args.blocks.now are)
    (c.loop-b.invariant.tells v shows own)

pub returns-clause-directories : goal.returns-clause-directories
returns-clause-directories g c v shows are own =
    directory_table v c.loop-b.survey
    (subst (λ (bs : List ℕ). TellsInodes v bs c.loop-b.survey)
    (ap (filter (is_valid v)) (take_all c.loop-b.b-index c.args.blocks.now c.loop-b-test.false) ∙ all_inodes v c.args.blocks.now are)
    (c.loop-b.invariant.tells v shows own))

pub returns-clause-indexes : goal.returns-clause-indexes
returns-clause-indexes g c v shows are own =
    index_table v c.loop-b.survey
    (subst (λ (bs : List ℕ). TellsInodes v bs c.loop-b.survey)
    (ap (filter (is_valid v)) (take_all c.loop-b.b-index c.args.blocks.now c.loop-b-test.false) ∙ all_inodes v c.args.blocks.now are)
    (c.loop-b.invariant.tells v shows own))
