use Rattle.o2_laws.proofs.GoodGroups.{groups_good}
use Rattle.o2_laws.proofs.Held.GroupsHeld.{descriptor_held, group_blocks_held}
use Rattle.o2_laws.proofs.Held.HeldBlocks.{held_owned}
use Rattle.std.proofs.Common.{◌+◌}
use Rattle.o2_laws.proofs.owned_laws.blocks_of_groups_are_owned.Goals as goal

pub returns-clause-good : goal.returns-clause-good
returns-clause-good c = groups_good

pub returns-clause-descriptor : goal.returns-clause-descriptor
returns-clause-descriptor c = λ v g is. held_owned v g.block (descriptor_held v g is)

pub returns-clause-blocks : goal.returns-clause-blocks
returns-clause-blocks c = λ v g k is of_blocks inside. held_owned v (g.block + k) (group_blocks_held v g k is of_blocks inside)
