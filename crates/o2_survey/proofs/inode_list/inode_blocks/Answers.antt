-- The blocks of all rows, in order.
use Rattle.std.proofs.Common.{◌∙◌, ap}
use Rattle.std.specs.Prelude.{flat_map}
use Rattle.std.proofs.lemmas.List.{take_all}
use Rattle.o2_model.specs.Orders.{rising}
use Rattle.o2_survey.specs.GroupRows.{inode_blocks_of}
use Rattle.o2_survey.proofs.InodeBlocks.{inode_blocks_told}
use Rattle.o2_survey.proofs.inode_list.inode_blocks.Goals as goal

pub returns : goal.returns
returns c v few table =
    c.in_order.ensures
    ∙ (ap rising (c.loop-row.invariant ∙ ap (flat_map inode_blocks_of) (take_all c.loop-row.row-index c.args.groups.now c.loop-row-test.false))
    ∙ inode_blocks_told v c.args.groups.now few table)
