use Rattle.o2_laws.proofs.SameGroups.{groups_keep}
use Rattle.o2_laws.proofs.frame_laws.other_blocks_keep_groups.Goals as goal

pub returns : goal.returns
returns c = groups_keep
