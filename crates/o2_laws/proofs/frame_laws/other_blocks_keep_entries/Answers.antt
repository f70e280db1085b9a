use Rattle.o2_laws.proofs.SameEntries.{entries_same}
use Rattle.o2_laws.proofs.frame_laws.other_blocks_keep_entries.Goals as goal

pub returns : goal.returns
returns c = entries_same
