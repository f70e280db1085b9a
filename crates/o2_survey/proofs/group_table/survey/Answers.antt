-- One group more.
use Rattle.std.proofs.Common.{map, filter, take, ◌∙◌, ap, subst}
use Rattle.std.proofs.lemmas.List.{take_all}
use Rattle.o2_model.specs.declared.allocator.Group.{Group}
use Rattle.o2_model.specs.Structures.{is_discontiguous}
use Rattle.o2_view.specs.Views.{view_state}
use Rattle.o2_view.proofs.Shown.{still_shows}
use Rattle.o2_extent.proofs.Views.{only_both}
use Rattle.o2_survey.specs.GroupRows.{AreGroupRows}
use Rattle.o2_survey.proofs.Calls.{calls_more}
use Rattle.o2_survey.proofs.GroupRows.{one_group_more, one_block_more}
use Rattle.o2_survey.proofs.group_table.survey.Goals as goal

pub loop-group-preserved : goal.loop-group-preserved
loop-group-preserved g c =
    let inv = c.loop-group.invariant in
    let gs = c.args.groups.now in
    let i = c.loop-group.group-index in
    record {
      rows = λ v shows.
          one_group_more v gs i _ c.add_group.new.rows.items c.loop-group-test.true
          (c.in_ok-add_group.ensures.row v (still_shows inv.reads shows) (take i gs) (inv.rows v shows));
      blocks = λ v shows.
          one_block_more (is_discontiguous v) gs i _ c.loop-group.discontiguous.items c.add_group.new.discontiguous.items c.loop-group-test.true (inv.blocks v shows)
          (c.in_ok-add_group.ensures.block v (still_shows inv.reads shows));
      count = calls_more i 1 (view_state c.args.view.now) (view_state c.loop-group.view) (view_state c.add_group.new.view) inv.reads.reads inv.count c.add_group.ensures.count;
      reads = only_both inv.reads c.add_group.ensures.reads;
    }

pub returns-clause-rows : goal.returns-clause-rows
returns-clause-rows g c v shows =
    rw c.from.ensures
    (subst (λ gs. AreGroupRows v gs c.loop-group.rows.items) (take_all c.loop-group.group-index c.args.groups.now c.loop-group-test.false) (c.loop-group.invariant.rows v shows))

pub returns-clause-discontiguous : goal.returns-clause-discontiguous
returns-clause-discontiguous g c v shows =
    c.loop-group.invariant.blocks v shows
    ∙ ap (λ gs. filter (is_discontiguous v) (map (λ (g : Group). g.block) gs)) (take_all c.loop-group.group-index c.args.groups.now c.loop-group-test.false)
