-- The blocks that were read are those of the tree.
use Rattle.std.proofs.Common.{◌≡◌, ◌∙◌, ap, subst}
use Rattle.o2_model.specs.RefcountTrees.{Refcounts, refcounts, record_blocks}
use Rattle.o2_model.specs.Words.{among}
use Rattle.o2_view.specs.Plans.{home_at}
use Rattle.o2_view.proofs.Shown.{still_shows}
use Rattle.o2_refcount.specs.Readings.{nothing_read, with_blocks}
use Rattle.o2_refcount.specs.Recounts.{IsRecounted, holders}
use Rattle.o2_refcount.proofs.BlockByBlock.{read_whole}
use Rattle.o2_refcount.proofs.Steps.{blocks_read}
use Rattle.o2_refcount.proofs.edit.set_counts.Goals as goal

pub returns-clause-recounted : goal.returns-clause-recounted
returns-clause-recounted g c v shows =
    let root = c.args.root in
    let tree = c.in_ok-tree.ensures in
    let blocks : c.as_slice.result.now ≡ record_blocks v root = c.as_slice.ensures.value ∙ tree.blocks v shows in
    let all : with_blocks v nothing_read c.as_slice.result.now ≡ refcounts v root = ap (with_blocks v nothing_read) blocks ∙ blocks_read v root in
    let none = tree.sound v shows in
    let whole = read_whole v root c.as_slice.result.now c.args.to.now all none.0 (c.requires.each v shows none) in
    let (new, shown, is) = c.in_ok-plan_blocks.ensures.recounted v (still_shows tree.reads shows) whole in
    (new, shown, subst (λ (t : Refcounts). IsRecounted v new t.records c.args.to.now) all is)

pub returns-clause-alone : goal.returns-clause-alone
returns-clause-alone g c v shows b out =
    let root = c.args.root in
    let tree = c.in_ok-tree.ensures in
    let blocks : c.as_slice.result.now ≡ record_blocks v root = c.as_slice.ensures.value ∙ tree.blocks v shows in
    let all : with_blocks v nothing_read c.as_slice.result.now ≡ refcounts v root = ap (with_blocks v nothing_read) blocks ∙ blocks_read v root in
    let none = tree.sound v shows in
    let whole = read_whole v root c.as_slice.result.now c.args.to.now all none.0 (c.requires.each v shows none) in
    c.in_ok-plan_blocks.ensures.alone v (still_shows tree.reads shows) whole b (ap (λ (t : Refcounts). among (holders t.records) b) all ∙ out)
    ∙ ap (λ p. home_at p b) tree.reads.same.plan
