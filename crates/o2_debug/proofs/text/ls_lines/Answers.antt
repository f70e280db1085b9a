-- The lines of the entries that were read are the directory's.
use Rattle.std.proofs.Common.{◌∙◌}
use Rattle.o2_debug.proofs.TextLemmas.{ls_is}
use Rattle.o2_debug.proofs.text.ls_lines.Goals as goal

pub returns-in-Ok-clause-told : goal.returns-in-Ok-clause-told
returns-in-Ok-clause-told g c v shows =
    let told = c.in_ok-found.ensures.told v shows in
    (told.0, ls_is v c.args.reading.now.inode c.as_slice.result.now c.in-Ok.lines (c.as_slice.ensures ∙ told.1) c.in-Ok.ensures)
