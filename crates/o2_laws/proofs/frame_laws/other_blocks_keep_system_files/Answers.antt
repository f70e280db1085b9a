use Rattle.o2_laws.proofs.SameAllocators.{inode_same, allocators_same, own_same}
use Rattle.o2_laws.proofs.frame_laws.other_blocks_keep_system_files.Goals as goal

pub returns-clause-inode : goal.returns-clause-inode
returns-clause-inode c = inode_same

pub returns-clause-allocators : goal.returns-clause-allocators
returns-clause-allocators c = allocators_same

pub returns-clause-own : goal.returns-clause-own
returns-clause-own c = own_same
