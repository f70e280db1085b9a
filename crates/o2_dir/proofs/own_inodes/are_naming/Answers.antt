-- The entry at hand names the inode.
use Rattle.std.proofs.Common.{sym, ◌∙◌, ap}
use Rattle.o2_model.specs.Directories.{is_dot}
use Rattle.o2_dir.proofs.OwnInodes.{named_at}
use Rattle.o2_dir.proofs.own_inodes.are_naming.Goals as goal

pub returns-then-entry-inode : goal.returns-then-entry-inode
returns-then-entry-inode c =
    let e = c.entry-item.result in
    let i = c.loop-entry.entry-index in
    let here = c.entry-item.is in
    sym (named_at c.args.entries.now i e c.args.inode c.loop-entry-test.true
    (ap is_dot (sym here) ∙ (sym c.is_dot_entry.ensures ∙ c.if-not-is_dot_entry.true))
    (sym c.if-entry-inode.true ∙ ap (λ x. x.inode) here))
