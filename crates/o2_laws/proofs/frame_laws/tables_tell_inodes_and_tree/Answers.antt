use Rattle.o2_laws.proofs.SameInodes.{is_inode-same, inodes-same, followed-same, tree-same}
use Rattle.o2_laws.proofs.frame_laws.tables_tell_inodes_and_tree.Goals as goal

pub returns-clause-inode : goal.returns-clause-inode
returns-clause-inode c = is_inode-same

pub returns-clause-inodes : goal.returns-clause-inodes
returns-clause-inodes c = inodes-same

pub returns-clause-followed : goal.returns-clause-followed
returns-clause-followed c = followed-same

pub returns-clause-tree : goal.returns-clause-tree
returns-clause-tree c = tree-same
