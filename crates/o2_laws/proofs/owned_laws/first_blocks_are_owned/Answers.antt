use Rattle.o2_laws.proofs.Held.GroupsHeld.{first_held}
use Rattle.o2_laws.proofs.Held.HeldBlocks.{held_owned}
use Rattle.o2_laws.proofs.owned_laws.first_blocks_are_owned.Goals as goal

pub returns : goal.returns
returns c = λ v b low. held_owned v b (first_held v b low)
