-- One of the first three checks fails, or the names decide.
use Rattle.o2_skeleton.proofs.FaultLists.{some_fail}
use Rattle.o2_skeleton.proofs.directories.sound_entries_in.Goals as goal

pub returns-in-Err-Bad-clause-none : goal.returns-in-Err-Bad-clause-none
returns-in-Err-Bad-clause-none g c v seen =
    let e = c.in-Err-Bad in
    let fails = rw e.field-0-is at e.ensures.fails in
    some_fail v c.args.inode e.field-0-0 e.field-0-1 (fails.first v seen)
