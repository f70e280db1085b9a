use Rattle.o2_laws.proofs.Held.OwnInodes.{root_is_inode, sysdir_is_inode, file_is_inode, directory_apart}
use Rattle.o2_laws.proofs.owned_laws.own_files_are_inodes.Goals as goal

pub returns-clause-root : goal.returns-clause-root
returns-clause-root c = root_is_inode

pub returns-clause-sysdir : goal.returns-clause-sysdir
returns-clause-sysdir c = sysdir_is_inode

pub returns-clause-files : goal.returns-clause-files
returns-clause-files c = file_is_inode

pub returns-clause-journals : goal.returns-clause-journals
returns-clause-journals c = directory_apart
