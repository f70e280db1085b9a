-- Where nothing fails, blocks that agree on the held ones have the same tree.
use Rattle.std.proofs.Common.{◌≡◌, ℕ, List, [], map, ◌∙◌, ap}
use Rattle.std.specs.Prelude.{filter, flat_map}
use Rattle.std.specs.List.{AllByRecursion, Contains}
use Rattle.std.proofs.lemmas.List.Elements.{filter_agree}
use Rattle.o2_model.specs.Volume.{Volume, over, blocks}
use Rattle.o2_model.specs.declared.entry.Entry.{Entry}
use Rattle.o2_model.specs.Directories.{directory_entries, named_entries}
use Rattle.o2_model.specs.Tree.{TreeWalk, names_users, followed, tree_walk, tree_directories, tree_entries}
use Rattle.o2_model.specs.Failing.{failing}
use Rattle.o2_laws.proofs.Held.HeldBlocks.{AgreesOnHeld}
use Rattle.o2_laws.proofs.Found.{all_map, each_of}
use Rattle.o2_laws.proofs.Agreeing.{flat_map_agree}
use Rattle.o2_laws.proofs.SameAllocators.{own_same}
use Rattle.o2_laws.proofs.Held.OwnInodes.{root_is_inode, root_is_directory}
use Rattle.o2_laws.proofs.Held.HeldTells.{dinode_same}
use Rattle.o2_laws.proofs.Held.HeldDirectories.{IsDirectoryInode, entries_of_directory, names_of_directory}
use Rattle.o2_laws.proofs.SameTree.{tree_walk-same}
use Rattle.o2_laws.proofs.SameInodes.{users_same, directory_same}
use Rattle.o2_laws.proofs.TreeWalks.{StaysGood, walk_good}
use Rattle.o2_laws.proofs.Held.HeldTables.{held_tell_system_files, held_tell_inode}

-- ---- what the walk reads
stays_in_directories : (v : Volume) → failing v ≡ [] → StaysGood v (IsDirectoryInode v)
stays_in_directories v none = record {
  root = record { inode = root_is_inode v none; directory = root_is_directory v none };
  named = λ b is directory. record { inode = is; directory = directory };
}

pub held_tell_users : (v : Volume) (at : ℕ → List ℕ) → failing v ≡ [] → AgreesOnHeld v at → (e : Entry) → names_users (over v at) e ≡ names_users v e
held_tell_users v at none agrees e =
    users_same v at e (held_tell_inode v at e.inode none agrees) (own_same v at (held_tell_system_files v at none agrees)) (dinode_same v at e.inode agrees)

followed_same : (v : Volume) (at : ℕ → List ℕ) → failing v ≡ [] → AgreesOnHeld v at → (d : ℕ) → IsDirectoryInode v d → followed (over v at) d ≡ followed v d
followed_same v at none agrees d is =
    ap (filter (names_users (over v at))) (names_of_directory v at d none agrees is)
    ∙ filter_agree (names_users (over v at)) (names_users v) (held_tell_users v at none agrees) (named_entries v d)

-- The tree is the same.
pub held_tell_tree : (v : Volume) (at : ℕ → List ℕ) → failing v ≡ [] → AgreesOnHeld v at → tree_walk (over v at) ≡ tree_walk v
held_tell_tree v at none agrees = tree_walk-same v at (IsDirectoryInode v) (record {
  good = stays_in_directories v none;
  kind = λ b is. directory_same v at b (dinode_same v at b agrees is);
  entries = followed_same v at none agrees;
})

-- ---- what it met
pub entered_directories : (v : Volume) → failing v ≡ [] → AllByRecursion (λ d. IsDirectoryInode v d.inode) (tree_walk v).entered
unfolding tree_walk
entered_directories v none = walk_good v (IsDirectoryInode v) (stays_in_directories v none) (blocks v)

pub tree_directory : (v : Volume) (d : ℕ) → failing v ≡ [] → Contains (tree_directories v) d → IsDirectoryInode v d
tree_directory v d none is = each_of (IsDirectoryInode v) (tree_directories v) d (all_map (IsDirectoryInode v) (λ x. x.inode) (tree_walk v).entered (entered_directories v none)) is

pub held_tell_tree_entries : (v : Volume) (at : ℕ → List ℕ) → failing v ≡ [] → AgreesOnHeld v at → tree_entries (over v at) ≡ tree_entries v
unfolding tree_entries
held_tell_tree_entries v at none agrees =
    ap (λ (w : TreeWalk). flat_map (directory_entries (over v at)) (map (λ d. d.inode) w.entered)) (held_tell_tree v at none agrees)
    ∙ flat_map_agree (directory_entries (over v at)) (directory_entries v) (tree_directories v) (λ d is. entries_of_directory v at d none agrees (tree_directory v d none is))
