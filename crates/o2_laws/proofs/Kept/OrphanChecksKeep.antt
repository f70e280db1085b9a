-- Where nothing fails, the checks of orphans and of what has no name fail at the same blocks over blocks that agree on the
-- held ones.
use Rattle.std.proofs.Common.{◌≡◌, inl, inr, ℕ, Bool, not, ◌||◌, ◌&&◌, ◌==◌, List, [], ◌++◌, map, refl, ◌∙◌, ap, Some}
use Rattle.std.specs.List.{list_any}
use Rattle.std.specs.Option.{option_map_or}
use Rattle.std.proofs.lemmas.Bool.{cases_Bool}
use Rattle.o2_ondisk.specs.Bits.{has_bits, orphaned_inode_flag}
use Rattle.o2_ondisk.specs.Dinodes.{dinode_of}
use Rattle.o2_model.specs.declared.check.Check.TheVariants as check
use Rattle.o2_model.specs.declared.system_file.SlotFile.TheVariants.{OrphanDir}
use Rattle.o2_model.specs.declared.system_file.SystemFile.TheVariants.{OfSlot}
use Rattle.o2_model.specs.Words.{among}
use Rattle.o2_model.specs.Faults.{fails_at}
use Rattle.o2_model.specs.Orders.{later_like}
use Rattle.o2_model.specs.Volume.{Volume, over}
use Rattle.o2_model.specs.declared.entry.Entry.{Entry}
use Rattle.o2_model.specs.Directories.{named_entries, own_inodes}
use Rattle.o2_model.specs.SystemFiles.{system_inode, slots}
use Rattle.o2_model.specs.Groups.{is_inode, inodes_of}
use Rattle.o2_model.specs.Tree.{TreeWalk, met_inodes, is_met}
use Rattle.o2_model.specs.Checks.OrphanFlag.{is_orphaned}
use Rattle.o2_model.specs.Checks.OrphanEntry.{orphans_of_slot, orphan_entries, names_orphan}
use Rattle.o2_model.specs.Checks.NotConnected.{is_connected}
use Rattle.o2_model.specs.Failing.{faults, failing}
use Rattle.o2_laws.proofs.Held.HeldBlocks.{AgreesOnHeld}
use Rattle.o2_laws.proofs.Agreeing.{flat_map_agree, fails_agree, option_agree}
use Rattle.o2_laws.proofs.SameAllocators.{inode_same, own_same}
use Rattle.o2_laws.proofs.Held.OwnInodes.{file_is_inode, orphan_directory_is}
use Rattle.o2_laws.proofs.Held.HeldTells.{dinode_same, listed_is_inode}
use Rattle.o2_laws.proofs.Held.HeldTables.{held_tell_system_files, held_tell_inode, held_tell_inodes}
use Rattle.o2_laws.proofs.Held.HeldDirectories.{IsDirectoryInode, names_of_directory}
use Rattle.o2_laws.proofs.Held.HeldTree.{held_tell_tree}
use Rattle.o2_laws.proofs.Held.HeldFiles.{held_tell_met_inodes, met_readable}

-- ---- the flag
orphaned_same : (v : Volume) (at : ℕ → List ℕ) (b : ℕ) → at b ≡ v.at b → is_orphaned (over v at) b ≡ is_orphaned v b
orphaned_same v at b inode = ap (λ bytes. has_bits (dinode_of bytes).flags.0 orphaned_inode_flag) inode

pub keeps_orphan_flag : (v : Volume) (at : ℕ → List ℕ) → failing v ≡ [] → AgreesOnHeld v at → faults (over v at) check.OrphanFlag ≡ faults v check.OrphanFlag
unfolding faults
keeps_orphan_flag v at none agrees =
    ap (fails_at (λ b. b) (λ b. not (is_orphaned (over v at) b))) (held_tell_met_inodes v at none agrees)
    ∙ fails_agree (λ b. b) (λ b. not (is_orphaned (over v at) b)) (λ b. not (is_orphaned v b)) (met_inodes v)
    (λ b is. ap not (orphaned_same v at b (dinode_same v at b agrees (met_readable v b none is).inode)))

-- ---- orphan directories
orphan_directory : (v : Volume) (slot b : ℕ) → failing v ≡ [] → system_inode v (OfSlot OrphanDir slot) ≡ Some b → IsDirectoryInode v b
orphan_directory v slot b none found = record { inode = file_is_inode v (OfSlot OrphanDir slot) b none found; directory = orphan_directory_is v slot b none found }

slot_orphans_same : (v : Volume) (at : ℕ → List ℕ) (slot : ℕ) → failing v ≡ [] → AgreesOnHeld v at → orphans_of_slot (over v at) slot ≡ orphans_of_slot v slot
slot_orphans_same v at slot none agrees =
    ap (λ o. option_map_or (named_entries (over v at)) o []) (inode_same v at (held_tell_system_files v at none agrees) (OfSlot OrphanDir slot))
    ∙ option_agree (named_entries (over v at)) (named_entries v) (system_inode v (OfSlot OrphanDir slot)) [] (λ b found. names_of_directory v at b none agrees (orphan_directory v slot b none found))

orphan_entries_same : (v : Volume) (at : ℕ → List ℕ) → failing v ≡ [] → AgreesOnHeld v at → orphan_entries (over v at) ≡ orphan_entries v
unfolding orphan_entries
orphan_entries_same v at none agrees = flat_map_agree (orphans_of_slot (over v at)) (orphans_of_slot v) (slots v) (λ slot is. slot_orphans_same v at slot none agrees)

names_orphan_same : (v : Volume) (at : ℕ → List ℕ) (e : Entry) → failing v ≡ [] → AgreesOnHeld v at → names_orphan (over v at) e ≡ names_orphan v e
unfolding names_orphan
names_orphan_same v at e none agrees = elim (cases_Bool (is_inode v e.inode)) [
  | inl there ↦ rw (held_tell_inode v at e.inode none agrees, own_same v at (held_tell_system_files v at none agrees), dinode_same v at e.inode agrees there) refl
  | inr absent ↦ rw (held_tell_inode v at e.inode none agrees, absent) refl
]

pub keeps_orphan_entry : (v : Volume) (at : ℕ → List ℕ) → failing v ≡ [] → AgreesOnHeld v at → faults (over v at) check.OrphanEntry ≡ faults v check.OrphanEntry
unfolding faults
keeps_orphan_entry v at none agrees =
    let again = λ (es : List Entry). map (λ (e : Entry). e.block) (later_like (λ (e f : Entry). e.inode == f.inode) es) in
    ap (λ es. fails_at (λ (e : Entry). e.block) (names_orphan (over v at)) es ++ again es) (orphan_entries_same v at none agrees)
    ∙ ap (λ bs. bs ++ again (orphan_entries v)) (fails_agree (λ (e : Entry). e.block) (names_orphan (over v at)) (names_orphan v) (orphan_entries v) (λ e is. names_orphan_same v at e none agrees))

-- ---- what has no name
connected_same : (v : Volume) (at : ℕ → List ℕ) (b : ℕ) → failing v ≡ [] → AgreesOnHeld v at → at b ≡ v.at b → is_connected (over v at) b ≡ is_connected v b
unfolding is_connected
connected_same v at b none agrees inode =
    let connected = λ (met : Bool) (own : List ℕ) (orphaned : Bool) (es : List Entry). met || among own b || (orphaned && list_any (λ (e : Entry). e.inode == b) es) in
    ap (λ (w : TreeWalk). connected (among (map (λ n. n.1) w.names) b) (own_inodes (over v at)) (is_orphaned (over v at) b) (orphan_entries (over v at))) (held_tell_tree v at none agrees)
    ∙ (ap (λ own. connected (is_met v b) own (is_orphaned (over v at) b) (orphan_entries (over v at))) (own_same v at (held_tell_system_files v at none agrees))
    ∙ (ap (λ orphaned. connected (is_met v b) (own_inodes v) orphaned (orphan_entries (over v at))) (orphaned_same v at b inode)
    ∙ ap (connected (is_met v b) (own_inodes v) (is_orphaned v b)) (orphan_entries_same v at none agrees)))

pub keeps_not_connected : (v : Volume) (at : ℕ → List ℕ) → failing v ≡ [] → AgreesOnHeld v at → faults (over v at) check.NotConnected ≡ faults v check.NotConnected
unfolding faults
keeps_not_connected v at none agrees =
    ap (fails_at (λ b. b) (is_connected (over v at))) (held_tell_inodes v at none agrees)
    ∙ fails_agree (λ b. b) (is_connected (over v at)) (is_connected v) (inodes_of v) (λ b is. connected_same v at b none agrees (dinode_same v at b agrees (listed_is_inode v b is)))
