-- The bit at hand is right, or it is not.
use Rattle.std.proofs.Common.{◌<◌, sym, ◌∙◌, arith}
use Rattle.o2_judges_alloc.specs.GroupRows.{may_have_inode}
use Rattle.o2_judges_alloc.proofs.Ranges.{test_here, test_fails, test_from_one}
use Rattle.o2_judges_alloc.proofs.inode_bits.are_clear_or_inodes.Goals as goal

pub loop-k-init : goal.loop-k-init
loop-k-init c = test_from_one (may_have_inode c.args.inodes.now c.args.row.now) c.args.row.now.group.bits

pub loop-k-preserved : goal.loop-k-preserved
loop-k-preserved c =
    let low : c.loop-k.k < c.args.row.now.group.bits = omega arith in
    sym (test_here (may_have_inode c.args.inodes.now c.args.row.now) c.loop-k.k c.args.row.now.group.bits low (sym c.is_clear_or_inode.ensures ∙ c.if-not-is_clear_or_inode.false)) ∙ c.loop-k.invariant

pub returns-then-not-is_clear_or_inode : goal.returns-then-not-is_clear_or_inode
returns-then-not-is_clear_or_inode c =
    let low : c.loop-k.k < c.args.row.now.group.bits = omega arith in
    sym (test_fails (may_have_inode c.args.inodes.now c.args.row.now) c.loop-k.k c.args.row.now.group.bits low (sym c.is_clear_or_inode.ensures ∙ c.if-not-is_clear_or_inode.true)) ∙ c.loop-k.invariant
