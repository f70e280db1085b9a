-- There is no inode, or it is not one of the users.
use Rattle.std.proofs.Common.{sym, ◌∙◌, subst}
use Rattle.o2_tree.specs.TreeRows.{IsInodeAt}
use Rattle.o2_walk.proofs.RowsMet.{no_user}
use Rattle.o2_walk.proofs.users.find_user.Goals as goal
use Rattle.o2_walk.proofs.users.find_user.Goals.{in_default-via-in-Some+else-is_user, in_default-via-in_default}

pub returns-in_default : goal.returns-in_default
returns-in_default c = λ v table own e same. elim c.in_default.branch [
  | in_default-via-in-Some+else-is_user w ↦
      sym (w.is_user.ensures v e own (subst (λ n. IsInodeAt v n w.in-Some.row.now) (sym same) (w.in-Some.ensures v table))) ∙ w.if-is_user.false
  | in_default-via-in_default w ↦ no_user v e c.args.inode same (w.in_default.ensures v table)
]
