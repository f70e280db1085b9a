-- What the checks of orphans ask of rows.
use Rattle.std.specs.Prelude.{◌≡◌, ℕ, Bool, ◌&&◌, ◌||◌, not, ◌==◌, List}
use Rattle.std.specs.BTreeSet.{BTreeSet}
use Rattle.std.specs.List.{list_any}
use Rattle.o2_ondisk.specs.Bits.{has_bits, orphaned_inode_flag}
use Rattle.o2_model.specs.Words.{among}
use Rattle.o2_model.specs.Volume.{Volume}
use Rattle.o2_model.specs.Directories.{own_inodes}
use Rattle.o2_model.specs.Groups.{is_inode}
use Rattle.o2_model.specs.Checks.OrphanFlag.{is_orphaned}
use Rattle.o2_tables.specs.declared.inodes.InodeRow.{InodeRow}
use Rattle.o2_tables.specs.declared.tree.TreeTable.{TreeTable}
use Rattle.o2_tally.specs.Again.{has_number}
use Rattle.o2_tally.specs.declared.again.Numbered.{Numbered}
use Rattle.o2_tree.specs.declared.directories.EntryRow.{EntryRow}

-- ---- inodes
-- `OCFS2_ORPHANED_FL` of i_flags
abbrev pub is_marked : InodeRow → Bool
is_marked r = has_bits r.flags.0 orphaned_inode_flag

-- the walk met it, or it is one of the volume's own, or it is marked and one of those that orphan directories name
abbrev pub is_connected : TreeTable → BTreeSet ℕ → BTreeSet ℕ → InodeRow → Bool
is_connected tree own named r =
    has_number tree.met r.block
    || has_number own r.block
    || (is_marked r && has_number named r.block)

-- ---- entries
-- These numbers are those of the inodes that the entries name.
pub record AreNamed (entries : List EntryRow) (named : BTreeSet ℕ) : Type 0 where
  pub each : (b : ℕ) → has_number named b ≡ list_any (λ e. e.inode == b) entries

-- the entry names a marked inode that is not the volume's own
unfoldable pub names_orphan : Volume → EntryRow → Bool
names_orphan v e = is_inode v e.inode && is_orphaned v e.inode && not (among (own_inodes v) e.inode)

-- the inode that the entry names, with the entry's block
abbrev pub numbered : EntryRow → Numbered
numbered e = record { number = e.inode; place = e.block }
