-- What is put there is told of this directory, up to order.
use Rattle.std.proofs.Common.{◌++◌, sym, ◌∙◌, ap, subst}
use Rattle.std.proofs.lemmas.Result.{on_ok_weaker}
use Rattle.o2_model.specs.Orders.{rising}
use Rattle.o2_model.specs.Checks.DirentDup.{dirent_dup_faults}
use Rattle.o2_inodes.specs.Directories.{IsDirectoryRead, TellsDirectory}
use Rattle.o2_inodes.proofs.DirectoriesTold.{rising_both, of_one}
use Rattle.o2_inodes.proofs.directories.judge_again.Goals as goal

pub returns : goal.returns
returns c = on_ok_weaker c.put_all.result
    (λ more v b tells ns same.
    let read : IsDirectoryRead v b c.in-Some.directory = subst (TellsDirectory v b) c.in-Some.is tells in
    let old = c.args.found.now.items in
    ap rising (more ∙ ap (λ xs. old ++ xs) c.deref.ensures.value)
    ∙ (rising_both old ns _ (dirent_dup_faults v b) same (c.in_ok-again.ensures v b (c.as_slice.ensures ∙ read.whole.entries))
    ∙ ap (λ xs. rising (ns ++ xs)) (sym (of_one v dirent_dup_faults b read.is))))
    c.put_all.ensures
