use Rattle.o2_laws.proofs.Held.HeldFiles.{held_tell_files}
use Rattle.o2_laws.proofs.Held.HeldTree.{held_tell_tree}
use Rattle.o2_laws.proofs.Held.HeldBlocks.{on_held}
use Rattle.o2_laws.proofs.owned_laws.owned_blocks_tell_tree.Goals as goal

pub returns-clause-files : goal.returns-clause-files
returns-clause-files c = λ v at none agrees. held_tell_files v at none (on_held v at agrees)

pub returns-clause-tree : goal.returns-clause-tree
returns-clause-tree c = λ v at none agrees. held_tell_tree v at none (on_held v at agrees)
