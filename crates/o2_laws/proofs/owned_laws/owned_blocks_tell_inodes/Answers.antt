use Rattle.o2_laws.proofs.Held.HeldTells.{held_tell_extents, held_tell_entries, held_tell_content, held_tell_file}
use Rattle.o2_laws.proofs.Held.HeldBlocks.{on_held}
use Rattle.o2_laws.proofs.owned_laws.owned_blocks_tell_inodes.Goals as goal

pub returns-clause-extents : goal.returns-clause-extents
returns-clause-extents c = λ v at i none agrees is. held_tell_extents v at i none (on_held v at agrees) is

pub returns-clause-entries : goal.returns-clause-entries
returns-clause-entries c = λ v at i none agrees is apart. held_tell_entries v at i none (on_held v at agrees) is apart

pub returns-clause-content : goal.returns-clause-content
returns-clause-content c = λ v at i none agrees is apart. held_tell_content v at i none (on_held v at agrees) is apart

pub returns-clause-file : goal.returns-clause-file
returns-clause-file c = λ v at i none agrees is apart. held_tell_file v at i none (on_held v at agrees) is apart
