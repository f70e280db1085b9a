-- The inode that was read is put there under its number.
use Rattle.std.proofs.Common.{ℕ, subst}
use Rattle.o2_model.specs.Words.{push}
use Rattle.o2_inodes.specs.InodeSurveys.{TellsInodes}
use Rattle.o2_inodes.proofs.add.add_inode.Goals as goal

pub returns-clause-told : goal.returns-clause-told
returns-clause-told g c v shows own bs tells =
    let read = rw c.in-Some.is at c.in_ok-inode.ensures.told v shows in
    let number = rw c.in-Some.is at c.in_ok-inode.ensures.number in
    rw read.0 (subst (λ (n : ℕ). TellsInodes v (push bs n) c.put_inode.new.survey) number (c.in_ok-put_inode.ensures v shows.numbers read.1 own bs tells))
