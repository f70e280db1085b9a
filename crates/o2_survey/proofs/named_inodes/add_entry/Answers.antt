-- The inode of an entry that is no dot is added.
use Rattle.o2_survey.proofs.named_inodes.add_entry.Goals as goal

pub returns-clause-added : goal.returns-clause-added
returns-clause-added g c v shows other named are = c.in_ok-add_inode.ensures.added v shows named are
