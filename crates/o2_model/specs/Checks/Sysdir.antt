-- SYSDIR, number 2, at the system directory: it is a valid dinode of a directory, for which EXTENT, INODE_SIZE, DIR_BLOCK,
-- DIRENT_NAME and DIRENT_DUP hold.
use Rattle.std.specs.Prelude.{ℕ, Bool, ◌&&◌, List, ◌++◌}
use Rattle.o2_model.specs.Orders.{is_none_of}
use Rattle.o2_model.specs.Faults.{fails_unless}
use Rattle.o2_model.specs.Volume.{Volume, is_valid}
use Rattle.o2_model.specs.Inodes.{is_directory}
use Rattle.o2_model.specs.Checks.Extent.{extent_faults}
use Rattle.o2_model.specs.Checks.InodeSize.{inode_size_faults}
use Rattle.o2_model.specs.Checks.DirBlock.{dir_block_faults}
use Rattle.o2_model.specs.Checks.DirentName.{dirent_name_faults}
use Rattle.o2_model.specs.Checks.DirentDup.{dirent_dup_faults}

-- where EXTENT, INODE_SIZE, DIR_BLOCK, DIRENT_NAME and DIRENT_DUP fail for one directory
abbrev pub directory_faults : Volume → ℕ → List ℕ
directory_faults v d =
    extent_faults v d
    ++ inode_size_faults v d
    ++ dir_block_faults v d
    ++ dirent_name_faults v d
    ++ dirent_dup_faults v d

-- a valid dinode of a directory for which these five checks hold
unfoldable pub is_sound_directory : Volume → ℕ → Bool
is_sound_directory v d = is_valid v d && is_directory v d && is_none_of (directory_faults v d)

abbrev pub sysdir_faults : Volume → List ℕ
sysdir_faults v = fails_unless v.geo.sysdir (is_sound_directory v v.geo.sysdir)
