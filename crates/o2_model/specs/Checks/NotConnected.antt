-- NOT_CONNECTED, number 29, at the inode: the walk of the tree meets it, or it is one of the volume's own, or it has
-- `OCFS2_ORPHANED_FL` and an orphan directory names it.
use Rattle.std.specs.Prelude.{ℕ, Bool, ◌&&◌, ◌||◌, ◌==◌, List}
use Rattle.std.specs.List.{list_any}
use Rattle.o2_model.specs.Words.{among}
use Rattle.o2_model.specs.Faults.{fails_at}
use Rattle.o2_model.specs.Volume.{Volume}
use Rattle.o2_model.specs.Directories.{own_inodes}
use Rattle.o2_model.specs.Groups.{inodes_of}
use Rattle.o2_model.specs.Tree.{is_met}
use Rattle.o2_model.specs.Checks.OrphanFlag.{is_orphaned}
use Rattle.o2_model.specs.Checks.OrphanEntry.{orphan_entries}

unfoldable pub is_connected : Volume → ℕ → Bool
is_connected v b =
    is_met v b
    || among (own_inodes v) b
    || (is_orphaned v b && list_any (λ e. e.inode == b) (orphan_entries v))

abbrev pub not_connected_faults : Volume → List ℕ
not_connected_faults v = fails_at (λ b. b) (is_connected v) (inodes_of v)
