-- ORPHAN_ENTRY, number 28, at the orphan directory's block: each live entry but the dots names an inode with `OCFS2_ORPHANED_FL`
-- that is not the volume's own, and over all slots no inode is named again.
use Rattle.std.specs.Prelude.{ℕ, Bool, ◌&&◌, not, ◌==◌, List, [], ◌++◌, map, flat_map}
use Rattle.std.specs.Option.{option_map_or}
use Rattle.o2_model.specs.declared.system_file.SlotFile.TheVariants.{OrphanDir}
use Rattle.o2_model.specs.declared.system_file.SystemFile.TheVariants.{OfSlot}
use Rattle.o2_model.specs.Words.{among}
use Rattle.o2_model.specs.Faults.{fails_at}
use Rattle.o2_model.specs.Orders.{later_like}
use Rattle.o2_model.specs.Volume.{Volume}
use Rattle.o2_model.specs.declared.entry.Entry.{Entry}
use Rattle.o2_model.specs.Directories.{named_entries, own_inodes}
use Rattle.o2_model.specs.SystemFiles.{system_inode, slots}
use Rattle.o2_model.specs.Groups.{is_inode}
use Rattle.o2_model.specs.Checks.OrphanFlag.{is_orphaned}

-- the entries of the slot's orphan directory but the dots
abbrev pub orphans_of_slot : Volume → ℕ → List Entry
orphans_of_slot v slot = option_map_or (named_entries v) (system_inode v (OfSlot OrphanDir slot)) []

-- those of all slots, slot by slot
unfoldable pub orphan_entries : Volume → List Entry
orphan_entries v = flat_map (orphans_of_slot v) (slots v)

unfoldable pub names_orphan : Volume → Entry → Bool
names_orphan v e = is_inode v e.inode && is_orphaned v e.inode && not (among (own_inodes v) e.inode)

abbrev pub orphan_entry_faults : Volume → List ℕ
orphan_entry_faults v =
    fails_at (λ e. e.block) (names_orphan v) (orphan_entries v)
    ++ map (λ e. e.block) (later_like (λ e f. e.inode == f.inode) (orphan_entries v))
