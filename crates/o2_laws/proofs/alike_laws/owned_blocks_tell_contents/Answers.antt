use Rattle.o2_laws.proofs.Kept.SharingKeeps.{held_tell_sharing}
use Rattle.o2_laws.proofs.Kept.ConsistentImages.{held_tell_contents}
use Rattle.o2_laws.proofs.Kept.OdditiesKeep.{held_tell_geometry}
use Rattle.o2_laws.proofs.Held.HeldBlocks.{on_held}
use Rattle.o2_laws.proofs.alike_laws.owned_blocks_tell_contents.Goals as goal

pub returns-clause-sharing : goal.returns-clause-sharing
returns-clause-sharing c = λ v at none agrees. held_tell_sharing v at none (on_held v at agrees)

pub returns-clause-contents : goal.returns-clause-contents
returns-clause-contents c = λ v at none agrees. held_tell_contents v at none (on_held v at agrees)

pub returns-clause-geometry : goal.returns-clause-geometry
returns-clause-geometry c = λ v at none agrees. held_tell_geometry v at none (on_held v at agrees)
