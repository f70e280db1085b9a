-- The row is added, and the block where it is kept.
use Rattle.std.proofs.Common.{◌≡◌, ℕ, List, ◌∙◌}
use Rattle.std.specs.BTreeMap.{get}
use Rattle.std.specs.Ordering.{nat_cmp}
use Rattle.o2_survey.proofs.SystemRows.{keeps, row_added}
use Rattle.o2_survey.proofs.named_inodes.add_read.Goals as goal

pub returns-in_ok-put_block : goal.returns-in_ok-put_block
returns-in_ok-put_block c v numbers is inside named are =
    row_added v named c.args.b _ c.args.inodes.now _ c.in_ok-put_row.ensures
    (keeps c.args.b c.args.block (λ d. get nat_cmp c.args.inodes.now.blocks d) (λ d. get nat_cmp c.put_block.new.blocks d) c.in_ok-put_block.ensures (λ d (block : List ℕ). block ≡ v.at d) is are.read.blocks)
    inside (c.system_inode_in.ensures v numbers (c.as_slice.ensures ∙ is)) are

pub returns-else-contains : goal.returns-else-contains
returns-else-contains c v numbers is inside named are =
    row_added v named c.args.b _ c.args.inodes.now _ c.in_ok-put_row.ensures are.read.blocks inside (c.system_inode_in.ensures v numbers (c.as_slice.ensures ∙ is)) are
