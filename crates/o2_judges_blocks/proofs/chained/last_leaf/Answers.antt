-- One block more.
use Rattle.std.proofs.Common.{List, fold, sym, ◌∙◌, ap}
use Rattle.std.proofs.lemmas.List.{drop_all}
use Rattle.o2_extent.specs.declared.list_block.ListBlock.{ListBlock}
use Rattle.o2_judges_blocks.specs.LeafRows.{leaf_rows}
use Rattle.o2_judges_blocks.proofs.LeavesTold.{last_more, last_told}
use Rattle.o2_judges_blocks.proofs.chained.last_leaf.Goals as goal

pub loop-row-preserved : goal.loop-row-preserved
loop-row-preserved c =
    let rows = c.args.blocks.now in
    let i = c.loop-row.row-index in
    rw c.leaf_or-last.ensures (sym (last_more rows i c.loop-row.last _ c.loop-row-test.true) ∙ c.loop-row.invariant)

pub returns : goal.returns
returns c v t are =
    let rows = c.args.blocks.now in
    sym (ap (λ (rs : List ListBlock). fold (λ _ r. r.block) c.loop-row.last (leaf_rows rs)) (drop_all c.loop-row.row-index rows c.loop-row-test.false))
    ∙ (c.loop-row.invariant ∙ last_told v t rows are)
