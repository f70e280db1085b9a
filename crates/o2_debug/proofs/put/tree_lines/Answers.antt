-- The lines of the records that were read are those of the file's tree.
use Rattle.std.proofs.Common.{◌∙◌}
use Rattle.o2_debug.proofs.TextLemmas.{refcount_is}
use Rattle.o2_debug.proofs.put.tree_lines.Goals as goal

pub returns-clause-told : goal.returns-clause-told
returns-clause-told g c v shows =
    let told = c.in_ok-records.ensures.told v shows in
    (told.0, refcount_is v c.args.reading.now.inode c.as_slice.result.now c.in_ok-refcount_lines.field-0 (c.as_slice.ensures ∙ told.1) c.in_ok-refcount_lines.ensures)
