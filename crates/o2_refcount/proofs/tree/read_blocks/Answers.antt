-- One block more.
use Rattle.std.proofs.Common.{get_or, sym, ◌∙◌, subst, arith}
use Rattle.std.proofs.lemmas.List.{take_more, take_all}
use Rattle.o2_model.specs.RefcountTrees.{read_refcount_block}
use Rattle.o2_view.proofs.Shown.{still_shows}
use Rattle.o2_extent.proofs.Views.{only_both}
use Rattle.o2_refcount.specs.Readings.{Keeps}
use Rattle.o2_refcount.specs.TreeReadings.{AreRefcountBlockRows}
use Rattle.o2_refcount.proofs.Steps.{next_block, no_block}
use Rattle.o2_refcount.proofs.tree.read_blocks.Goals as goal

pub loop-b-preserved : goal.loop-b-preserved
loop-b-preserved g c = record {
  rows = λ v shows.
      let bs = c.args.blocks.now in
      let i = c.loop-b.b-index in
      subst (λ those. AreRefcountBlockRows v those c.add_block.new.rows.items) (sym (take_more bs i 0 c.loop-b-test.true))
      (c.in_ok-add_block.ensures.rows v (still_shows c.loop-b.invariant.reads shows) _ (c.loop-b.invariant.rows v shows));
  read = λ v shows before t keeps.
      let bs = c.args.blocks.now in
      let i = c.loop-b.b-index in
      let (now, kept, gives) = c.loop-b.invariant.read v shows before t keeps in (
        read_refcount_block v now (get_or bs i 0),
        c.in_ok-add_block.ensures.read v (still_shows c.loop-b.invariant.reads shows) before now kept,
        sym (next_block v now bs i (omega arith)) ∙ gives,
      );
  reads = only_both c.loop-b.invariant.reads c.in_ok-add_block.ensures.reads;
}

pub returns-clause-rows : goal.returns-clause-rows
returns-clause-rows g c v shows =
    subst (λ those. AreRefcountBlockRows v those c.loop-b.rows.items) (take_all c.loop-b.b-index c.args.blocks.now (omega arith)) (c.loop-b.invariant.rows v shows)

pub returns-clause-read : goal.returns-clause-read
returns-clause-read g c v shows before t keeps =
    let (now, kept, gives) = c.loop-b.invariant.read v shows before t keeps in
    subst (Keeps before _) (sym (no_block v now c.args.blocks.now c.loop-b.b-index (omega arith)) ∙ gives) kept
