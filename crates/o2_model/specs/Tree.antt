-- The walk of the tree: which directories it enters, and by which names.
use Rattle.std.specs.Prelude.{ℕ, zero, suc, Bool, ◌&&◌, not, ◌==◌, List, [], ◌∷◌, map, flat_map, filter, fold, slice_get, count_by, if◌then◌else◌, Option}
use Rattle.std.specs.Option.{option_map_or}
use Rattle.std.specs.Ordering.{nat_cmp}
use Rattle.std.specs.Cmp.Lexicographic.{slice_cmp}
use Rattle.std.specs.declared.cmp.Ordering.{Ordering}
use Rattle.std.specs.FinMap as finite
use Rattle.o2_ondisk.specs.Bits.{has_bits, system_inode_flag}
use Rattle.o2_model.specs.Words.{among, push}
use Rattle.o2_model.specs.Orders.{rising}
use Rattle.o2_model.specs.Volume.{Volume, blocks, dinode}
use Rattle.o2_model.specs.Inodes.{is_directory}
use Rattle.o2_model.specs.declared.entry.Entry.{Entry}
use Rattle.o2_model.specs.Directories.{directory_entries, named_entries, own_inodes}
use Rattle.o2_model.specs.Groups.{is_inode}

-- the entry names an inode of the users: one without SYSTEM that is not the volume's own
unfoldable pub names_users : Volume → Entry → Bool
names_users v e = is_inode v e.inode && not (has_bits (dinode v e.inode).flags.0 system_inode_flag) && not (among (own_inodes v) e.inode)

-- the entries of a directory that the walk follows
abbrev pub followed : Volume → ℕ → List Entry
followed v d = filter (names_users v) (named_entries v d)

-- A directory that was entered, from which one, and the names on its path.
pub record Entered : Type 0 where
  pub inode : ℕ
  pub parent : ℕ
  pub path : List (List ℕ)

-- What the walk has met so far, in order.
pub record TreeWalk : Type 0 where
  pub entered : List Entered
  -- each path that it met, and the inode there
  pub names : List (List (List ℕ) × ℕ)
  -- the blocks of later entries that name a directory
  pub faults : List ℕ

abbrev pub is_entered : TreeWalk → ℕ → Bool
is_entered w b = among (map (λ d. d.inode) w.entered) b

abbrev pub with_name : Entered → Entry → TreeWalk → TreeWalk
with_name d e w = record w { names = push w.names (push d.path e.name, e.inode) }

abbrev pub with_directory : Entered → Entry → TreeWalk → TreeWalk
with_directory d e w = record w { entered = push w.entered (record { inode = e.inode; parent = d.inode; path = push d.path e.name }) }

abbrev pub with_second_name : Entry → TreeWalk → TreeWalk
with_second_name e w = record w { faults = push w.faults e.block }

-- An entry of the directory d is followed. The first that names a directory enters it, and a later one adds nothing.
abbrev pub follow : Volume → Entered → TreeWalk → Entry → TreeWalk
follow v d w e =
    if not (is_directory v e.inode) then with_name d e w
    else if is_entered w e.inode then with_second_name e w
    else with_directory d e (with_name d e w)

abbrev pub look_through : Volume → TreeWalk → Entered → TreeWalk
look_through v w d = fold (follow v d) w (followed v d.inode)

-- at first the root alone is entered
abbrev pub at_root : Volume → TreeWalk
at_root v = record { entered = record { inode = v.geo.root; parent = v.geo.root; path = [] } ∷ []; names = ([], v.geo.root) ∷ []; faults = [] }

-- After the first `count` directories were looked through, in the order in which they were entered: level by level.
abbrev pub walk_after : Volume → ℕ → TreeWalk
walk_after v zero = at_root v
walk_after v (suc count) = option_map_or (look_through v (walk_after v count)) (slice_get (walk_after v count).entered count) (walk_after v count)

-- No more are entered than there are blocks.
unfoldable pub tree_walk : Volume → TreeWalk
tree_walk v = walk_after v (blocks v)

-- ---- what it met
-- the directories of the tree
abbrev pub tree_directories : Volume → List ℕ
tree_directories v = map (λ d. d.inode) (tree_walk v).entered

-- the live entries of the tree, `.` and `..` among them
unfoldable pub tree_entries : Volume → List Entry
tree_entries v = flat_map (directory_entries v) (tree_directories v)

-- the inodes that were met, rising, each once
unfoldable pub met_inodes : Volume → List ℕ
met_inodes v = rising (map (λ n. n.1) (tree_walk v).names)

-- the inode was met
abbrev pub is_met : Volume → ℕ → Bool
is_met v b = among (map (λ n. n.1) (tree_walk v).names) b

-- how many live entries of the tree name the inode
abbrev pub link_count : Volume → ℕ → ℕ
link_count v b = count_by (λ e. e.inode == b) (tree_entries v)

-- ---- paths
-- the order of paths, name by name and byte by byte
abbrev pub path_cmp : List (List ℕ) → List (List ℕ) → Ordering
path_cmp p q = slice_cmp (slice_cmp nat_cmp) p q

-- The inode at each path; of two equal paths the first counts.
abbrev pub tree_of : Volume → finite.FinMap path_cmp ℕ
tree_of v = finite.from_entries (tree_walk v).names

-- The inode at a path: that of the first name that the walk met there.
abbrev pub inode_at : Volume → List (List ℕ) → Option ℕ
inode_at v path = finite.find path_cmp path (tree_walk v).names

-- the inodes that the tree has at its paths: for each path that the walk met, the one there
unfoldable pub tree_inodes : Volume → List ℕ
tree_inodes v = flat_map (λ n. option_map_or (λ b. b ∷ []) (inode_at v n.0) []) (tree_walk v).names
