-- DIR_DOTS, number 23, at the directory's block: in the tree the first `.` names the directory, the first `..` its parent, and
-- there are no further ones; of a missing one DIR_BLOCK alone is told.
use Rattle.std.specs.Prelude.{ℕ, ◌==◌, List, [], ◌∷◌, ◌++◌, map, flat_map, filter, codes}
use Rattle.o2_model.specs.Faults.{fails_unless}
use Rattle.o2_model.specs.Volume.{Volume}
use Rattle.o2_model.specs.declared.entry.Entry.{Entry}
use Rattle.o2_model.specs.Directories.{directory_entries, is_named}
use Rattle.o2_model.specs.Tree.{Entered, tree_walk}

-- of the entries of one name the first has to name this inode, and there may be no more
abbrev pub not_once : ℕ → List Entry → List ℕ
not_once inode [] = []
not_once inode (first ∷ further) = fails_unless first.block (first.inode == inode) ++ map (λ e. e.block) further

-- those of one directory
abbrev pub dot_faults : Volume → Entered → List ℕ
dot_faults v d =
    not_once d.inode (filter (is_named (codes ".")) (directory_entries v d.inode))
    ++ not_once d.parent (filter (is_named (codes "..")) (directory_entries v d.inode))

abbrev pub dir_dots_faults : Volume → List ℕ
dir_dots_faults v = flat_map (dot_faults v) (tree_walk v).entered
