-- The rows tell it.
use Rattle.std.proofs.Common.{◌++◌, ◌∙◌, ap, flat_map}
use Rattle.o2_model.specs.Allocators.{are_inodes}
use Rattle.o2_model.specs.Orders.{rising}
use Rattle.o2_judges_origin.specs.OriginRows.{inode_row_faults}
use Rattle.o2_judges_origin.proofs.SuballocTold.{inodes_told}
use Rattle.o2_judges_origin.proofs.inodes.inode_suballoc.Goals as goal

pub returns : goal.returns
returns c = λ v few table inodes.
    ap rising
    (c.in_ok-judge_inodes.ensures v are_inodes (c.in_ok-placed.ensures v table)
    ∙ (ap (λ ns. ns ++ flat_map (inode_row_faults v are_inodes) c.args.inodes.now) c.new-found.ensures.items ∙ inodes_told v c.args.inodes.now inodes))
