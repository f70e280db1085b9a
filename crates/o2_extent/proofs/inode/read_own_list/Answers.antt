-- The extents are what is read of the list, where there is one.
use Rattle.std.proofs.Common.{◌≡◌, false, sym, ◌∙◌, ap, subst}
use Rattle.std.proofs.lemmas.Result.{IfOk-weaker}
use Rattle.o2_ondisk.specs.Dinodes.{dinode_of}
use Rattle.o2_model.specs.Volume.{dinode}
use Rattle.o2_model.specs.Inodes.{holds_list}
use Rattle.o2_extent.specs.Readings.{Keeps}
use Rattle.o2_extent.proofs.Steps.{no_list, own_list}
use Rattle.o2_extent.proofs.inode.read_own_list.Goals as goal

pub returns-clause-read : goal.returns-clause-read
returns-clause-read g c = IfOk-weaker c.read_block_list.result _ _
    (λ reading read v seen.
    let is : c.read_dinode-dinode.result ≡ dinode v c.args.owner = c.read_dinode-dinode.ensures ∙ ap dinode_of seen.is in
    subst (Keeps v reading) (own_list v c.args.owner c.read_dinode-dinode.result c.flags_allowed.result is (sym c.has_list.ensures ∙ c.if-not-has_list.false) c.flags_allowed.ensures) (read v seen))
    c.read_block_list.ensures.read

pub returns-then-not-has_list-clause-read : goal.returns-then-not-has_list-clause-read
returns-then-not-has_list-clause-read g c v seen =
    let is : c.read_dinode-dinode.result ≡ dinode v c.args.owner = c.read_dinode-dinode.ensures ∙ ap dinode_of seen.is in
    let none : holds_list (dinode v c.args.owner) ≡ false = ap holds_list (sym is) ∙ (sym c.has_list.ensures ∙ c.if-not-has_list.true) in
    subst (Keeps v c.start.result) (no_list v c.args.owner none) (c.start.ensures.keeps v)
