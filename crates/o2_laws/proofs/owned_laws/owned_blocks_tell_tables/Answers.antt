use Rattle.o2_laws.proofs.Held.HeldTables.{held_tell_system_files, held_tell_groups, held_tell_inodes}
use Rattle.o2_laws.proofs.Held.HeldBlocks.{on_held}
use Rattle.o2_laws.proofs.owned_laws.owned_blocks_tell_tables.Goals as goal

pub returns-clause-files : goal.returns-clause-files
returns-clause-files c = λ v at none agrees. held_tell_system_files v at none (on_held v at agrees)

pub returns-clause-groups : goal.returns-clause-groups
returns-clause-groups c = λ v at none agrees. held_tell_groups v at none (on_held v at agrees)

pub returns-clause-inodes : goal.returns-clause-inodes
returns-clause-inodes c = λ v at none agrees. held_tell_inodes v at none (on_held v at agrees)
