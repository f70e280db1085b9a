-- DIRENT_INODE, number 24, at the directory's block: in the tree live entries but the dots name inodes without `OCFS2_SYSTEM_FL`
-- that are not the volume's own.
use Rattle.std.specs.Prelude.{ℕ, List, flat_map}
use Rattle.o2_model.specs.Faults.{fails_at}
use Rattle.o2_model.specs.Volume.{Volume}
use Rattle.o2_model.specs.Directories.{named_entries}
use Rattle.o2_model.specs.Tree.{names_users, tree_directories}

abbrev pub dirent_inode_faults : Volume → List ℕ
dirent_inode_faults v = fails_at (λ e. e.block) (names_users v) (flat_map (named_entries v) (tree_directories v))
