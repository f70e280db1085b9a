-- A name that the map has keeps its inode, and a new one gets that of the entry.
use Rattle.std.proofs.Common.{cond, bytes_eq, sym, ◌∙◌, ap, Some}
use Rattle.std.proofs.lemmas.Result.{on_ok_weaker}
use Rattle.o2_survey.specs.SystemNames.{inode_at}
use Rattle.o2_survey.proofs.FirstNames.{met_before, met_first}
use Rattle.o2_survey.proofs.system_names.add_entry.Goals as goal

pub returns-then-has_name : goal.returns-then-has_name
returns-then-has_name c = met_before (inode_at c.args.inodes.now) c.args.entry.now (sym c.has_name.ensures ∙ c.if-has_name.true)

pub returns : goal.returns
returns c =
    let before = inode_at c.args.inodes.now in
    let e = c.args.entry.now in
    on_ok_weaker c.put_inode.result
    (λ put name. put name ∙ (ap (λ n. cond (bytes_eq n name) (Some e.inode) (before name)) (c.in-Ok.ensures.items_if_clones_equal (λ x y same. same) ∙ c.as_slice.ensures) ∙ met_first before e (sym c.has_name.ensures ∙ c.if-has_name.false) name))
    c.put_inode.ensures
