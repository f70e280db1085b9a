-- The flag is set, or the set of the volume's own inodes decides.
use Rattle.std.proofs.Common.{◌&&◌, not, sym, ◌∙◌, ap}
use Rattle.o2_ondisk.specs.Bits.{has_bits, system_inode_flag}
use Rattle.o2_tally.specs.Again.{has_number}
use Rattle.o2_walk.proofs.RowsMet.{user_is}
use Rattle.o2_walk.proofs.users.is_user.Goals as goal

pub returns-then-not-has : goal.returns-then-not-has
returns-then-not-has c = λ v e are at.
    ap (λ b. not b && not c.contains.result) (sym c.if-not-has.true ∙ c.has.ensures)
    ∙ (ap (λ b. not (has_bits c.args.row.now.flags.0 system_inode_flag) && not b) c.contains.ensures
    ∙ user_is v e c.args.row.now c.args.own.now are at)

pub returns-else-not-has : goal.returns-else-not-has
returns-else-not-has c = λ v e are at.
    ap not c.if-not-has.false
    ∙ (ap (λ b. not b && not (has_number c.args.own.now c.args.row.now.block)) (sym c.if-not-has.false ∙ c.has.ensures)
    ∙ user_is v e c.args.row.now c.args.own.now are at)
