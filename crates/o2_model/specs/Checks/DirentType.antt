-- DIRENT_TYPE, number 25, at the directory's block: in the tree file_type of an entry that names an inode is that inode's kind.
use Rattle.std.specs.Prelude.{ℕ, Bool, false, ◌==◌, List, filter}
use Rattle.std.specs.Option.{option_map_or}
use Rattle.o2_ondisk.specs.Kinds.{type_of_kind}
use Rattle.o2_model.specs.Faults.{fails_at}
use Rattle.o2_model.specs.Volume.{Volume}
use Rattle.o2_model.specs.Inodes.{kind}
use Rattle.o2_model.specs.declared.entry.Entry.{Entry}
use Rattle.o2_model.specs.Groups.{is_inode}
use Rattle.o2_model.specs.Tree.{tree_entries}

unfoldable pub has_type_of_inode : Volume → Entry → Bool
has_type_of_inode v e = option_map_or (λ k. e.file_type == type_of_kind k) (kind v e.inode) false

-- those of the entries that name inodes, the dots among them
abbrev pub dirent_type_faults : Volume → List ℕ
dirent_type_faults v = fails_at (λ e. e.block) (has_type_of_inode v) (filter (λ e. is_inode v e.inode) (tree_entries v))
