use Rattle.o2_laws.proofs.Kept.ClaimsKeep.{held_tell_claims}
use Rattle.o2_laws.proofs.Kept.OwnedKeep.{held_tell_owned}
use Rattle.o2_laws.proofs.Kept.OdditiesKeep.{held_tell_structure}
use Rattle.o2_laws.proofs.Kept.JournalsKeep.{held_tell_dirty}
use Rattle.o2_laws.proofs.Held.HeldBlocks.{on_held}
use Rattle.o2_laws.proofs.alike_laws.owned_blocks_tell_claims.Goals as goal

pub returns-clause-claims : goal.returns-clause-claims
returns-clause-claims c = λ v at none agrees. held_tell_claims v at none (on_held v at agrees)

pub returns-clause-owned : goal.returns-clause-owned
returns-clause-owned c = λ v at b none agrees. held_tell_owned v at b none (on_held v at agrees)

pub returns-clause-structures : goal.returns-clause-structures
returns-clause-structures c = λ v at none agrees. held_tell_structure v at none (on_held v at agrees)

pub returns-clause-slots : goal.returns-clause-slots
returns-clause-slots c = λ v at none agrees. held_tell_dirty v at none (on_held v at agrees)
