-- The rows tell it.
use Rattle.std.proofs.Common.{sym, ◌∙◌, ap, subst}
use Rattle.o2_model.specs.Orders.{rising}
use Rattle.o2_tally.specs.Gathered.{IsCount}
use Rattle.o2_judges_alloc.proofs.MetadataTold.{meta_told}
use Rattle.o2_judges_alloc.proofs.metadata_blocks.meta_block.Goals as goal

pub returns-in-Ok : goal.returns-in-Ok
returns-in-Ok c = λ v few groups inodes trees.
    let listed = c.as_slice-2.ensures.value in
    let counted : IsCount c.as_slice-2.result.now c.in_ok-counts.counts = subst (λ us. IsCount us c.in_ok-counts.counts) (c.as_slice.ensures.value ∙ sym listed) c.in_ok-counts.ensures in
    ap rising (c.in-Ok.ensures ∙ meta_told v _ _ _ _ _ _ c.in_ok-given.ensures (listed ∙ c.in_ok-uses.ensures) counted few groups inodes trees)
