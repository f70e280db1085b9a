-- The map has one name more.
use Rattle.std.proofs.Common.{◌≡◌, ℕ, List, cond, bytes_eq, sym, ◌∙◌, ap, subst, Some}
use Rattle.std.specs.Prelude.{OnOk}
use Rattle.o2_survey.specs.SystemNames.{inode_at}
use Rattle.o2_survey.proofs.NameMaps.{at, at_one_more}
use Rattle.o2_survey.proofs.system_names.put_inode.Goals as goal

pub returns : goal.returns
returns c =
    let es = c.args.inodes.now.entries in
    elim c.match-insert.branch [
      | goal.in-Ok w ↦ subst (λ r. OnOk r ((other : List ℕ) → inode_at c.insert.new.self other ≡ cond (bytes_eq c.args.name.items other) (Some c.args.inode) (at es other))) (sym w.result-is)
          (λ other. ap (λ xs. at xs other) w.in-Ok.ensures.entries ∙ at_one_more es c.args.name c.args.inode other)
      | goal.in-Err w ↦ subst (λ r. OnOk r ((other : List ℕ) → inode_at c.insert.new.self other ≡ cond (bytes_eq c.args.name.items other) (Some c.args.inode) (at es other))) (sym w.result-is) tt
    ]
