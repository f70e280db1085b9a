-- Where nothing fails, the checks of the tree fail at the same blocks over blocks that agree on the held ones.
use Rattle.std.proofs.Common.{◌≡◌, ℕ, ◌%◌, ◌^◌, false, ◌==◌, List, [], ◌++◌, map, ◌∙◌, ap}
use Rattle.std.specs.Prelude.{flat_map, filter, codes, count_by}
use Rattle.std.specs.Option.{option_map_or}
use Rattle.std.proofs.lemmas.List.Elements.{filter_agree}
use Rattle.o2_ondisk.specs.Dinodes.{dinode_of}
use Rattle.o2_ondisk.specs.Kinds.{type_of_kind}
use Rattle.o2_ondisk.specs.declared.kind.Kind.{Kind}
use Rattle.o2_model.specs.declared.check.Check.TheVariants as check
use Rattle.o2_model.specs.Faults.{fails_at}
use Rattle.o2_model.specs.Volume.{Volume, over, dinode}
use Rattle.o2_model.specs.declared.entry.Entry.{Entry}
use Rattle.o2_model.specs.Directories.{is_named, named_entries}
use Rattle.o2_model.specs.Files.{links_of}
use Rattle.o2_model.specs.Groups.{is_inode}
use Rattle.o2_model.specs.Tree.{Entered, TreeWalk, names_users, tree_walk, tree_directories, tree_entries, met_inodes, link_count}
use Rattle.o2_model.specs.Checks.DirDots.{not_once, dot_faults}
use Rattle.o2_model.specs.Checks.DirentType.{has_type_of_inode}
use Rattle.o2_model.specs.Failing.{faults, failing}
use Rattle.o2_laws.proofs.Held.HeldBlocks.{AgreesOnHeld}
use Rattle.o2_laws.proofs.Found.{each_of}
use Rattle.o2_laws.proofs.Members.{contains_filter}
use Rattle.o2_laws.proofs.Agreeing.{flat_map_agree, fails_agree}
use Rattle.o2_laws.proofs.SameContents.{kind_same}
use Rattle.o2_laws.proofs.Held.HeldTells.{dinode_same}
use Rattle.o2_laws.proofs.Held.HeldTables.{held_tell_inode}
use Rattle.o2_laws.proofs.Held.HeldDirectories.{IsDirectoryInode, entries_of_directory, names_of_directory}
use Rattle.o2_laws.proofs.Held.HeldTree.{held_tell_users, held_tell_tree, entered_directories, tree_directory, held_tell_tree_entries}
use Rattle.o2_laws.proofs.Held.HeldFiles.{held_tell_met_inodes, met_readable}

-- ---- directories
dots_same : (v : Volume) (at : ℕ → List ℕ) (d : Entered) → failing v ≡ [] → AgreesOnHeld v at → IsDirectoryInode v d.inode → dot_faults (over v at) d ≡ dot_faults v d
dots_same v at d none agrees is =
    ap (λ es. not_once d.inode (filter (is_named (codes ".")) es) ++ not_once d.parent (filter (is_named (codes "..")) es)) (entries_of_directory v at d.inode none agrees is)

pub keeps_dir_dots : (v : Volume) (at : ℕ → List ℕ) → failing v ≡ [] → AgreesOnHeld v at → faults (over v at) check.DirDots ≡ faults v check.DirDots
unfolding faults
keeps_dir_dots v at none agrees =
    ap (λ (w : TreeWalk). flat_map (dot_faults (over v at)) w.entered) (held_tell_tree v at none agrees)
    ∙ flat_map_agree (dot_faults (over v at)) (dot_faults v) (tree_walk v).entered
    (λ d is. dots_same v at d none agrees (each_of (λ (x : Entered). IsDirectoryInode v x.inode) (tree_walk v).entered d (entered_directories v none) is))

pub keeps_dir_parent : (v : Volume) (at : ℕ → List ℕ) → failing v ≡ [] → AgreesOnHeld v at → faults (over v at) check.DirParent ≡ faults v check.DirParent
unfolding faults
keeps_dir_parent v at none agrees = ap (λ (w : TreeWalk). w.faults) (held_tell_tree v at none agrees)

-- ---- entries
-- the entries of the tree but the dots
tree_names_same : (v : Volume) (at : ℕ → List ℕ) → failing v ≡ [] → AgreesOnHeld v at
    → flat_map (named_entries (over v at)) (tree_directories (over v at)) ≡ flat_map (named_entries v) (tree_directories v)
tree_names_same v at none agrees =
    ap (λ (w : TreeWalk). flat_map (named_entries (over v at)) (map (λ d. d.inode) w.entered)) (held_tell_tree v at none agrees)
    ∙ flat_map_agree (named_entries (over v at)) (named_entries v) (tree_directories v) (λ d is. names_of_directory v at d none agrees (tree_directory v d none is))

pub keeps_dirent_inode : (v : Volume) (at : ℕ → List ℕ) → failing v ≡ [] → AgreesOnHeld v at → faults (over v at) check.DirentInode ≡ faults v check.DirentInode
unfolding faults
keeps_dirent_inode v at none agrees =
    ap (fails_at (λ (e : Entry). e.block) (names_users (over v at))) (tree_names_same v at none agrees)
    ∙ fails_agree (λ (e : Entry). e.block) (names_users (over v at)) (names_users v) (flat_map (named_entries v) (tree_directories v)) (λ e is. held_tell_users v at none agrees e)

type_same : (v : Volume) (at : ℕ → List ℕ) (e : Entry) → at e.inode ≡ v.at e.inode → has_type_of_inode (over v at) e ≡ has_type_of_inode v e
unfolding has_type_of_inode
type_same v at e inode = ap (λ o. option_map_or (λ (k : Kind). e.file_type == type_of_kind k) o false) (kind_same v at e.inode inode)

pub keeps_dirent_type : (v : Volume) (at : ℕ → List ℕ) → failing v ≡ [] → AgreesOnHeld v at → faults (over v at) check.DirentType ≡ faults v check.DirentType
unfolding faults
keeps_dirent_type v at none agrees =
    let names_inode = λ (u : Volume) (e : Entry). is_inode u e.inode in
    let judged = fails_at (λ (e : Entry). e.block) (has_type_of_inode (over v at)) in
    ap (λ es. judged (filter (names_inode (over v at)) es)) (held_tell_tree_entries v at none agrees)
    ∙ (ap judged (filter_agree (names_inode (over v at)) (names_inode v) (λ e. held_tell_inode v at e.inode none agrees) (tree_entries v))
    ∙ fails_agree (λ (e : Entry). e.block) (has_type_of_inode (over v at)) (has_type_of_inode v) (filter (names_inode v) (tree_entries v))
    (λ e is. type_same v at e (dinode_same v at e.inode agrees (contains_filter (names_inode v) (tree_entries v) e is).1)))

-- ---- links
links_same : (v : Volume) (at : ℕ → List ℕ) (b : ℕ) → at b ≡ v.at b → tree_entries (over v at) ≡ tree_entries v
    → (links_of (dinode (over v at) b) == link_count (over v at) b % 2 ^ 32) ≡ (links_of (dinode v b) == link_count v b % 2 ^ 32)
links_same v at b inode entries =
    ap (λ bytes. links_of (dinode_of bytes) == link_count (over v at) b % 2 ^ 32) inode
    ∙ ap (λ es. links_of (dinode v b) == count_by (λ (e : Entry). e.inode == b) es % 2 ^ 32) entries

pub keeps_inode_count : (v : Volume) (at : ℕ → List ℕ) → failing v ≡ [] → AgreesOnHeld v at → faults (over v at) check.InodeCount ≡ faults v check.InodeCount
unfolding faults
keeps_inode_count v at none agrees =
    let counted = λ (u : Volume) (b : ℕ). links_of (dinode u b) == link_count u b % 2 ^ 32 in
    ap (fails_at (λ b. b) (counted (over v at))) (held_tell_met_inodes v at none agrees)
    ∙ fails_agree (λ b. b) (counted (over v at)) (counted v) (met_inodes v)
    (λ b is. links_same v at b (dinode_same v at b agrees (met_readable v b none is).inode) (held_tell_tree_entries v at none agrees))
