-- What the tables of directories, of their entries and of their indexes are.
use Rattle.std.specs.Prelude.{◌≡◌, ℕ, Bool, true, ◌&&◌, List, map, filter, codes, bytes_eq, if◌then◌else◌}
use Rattle.std.specs.List.{AllByRecursion, list_all}
use Rattle.o2_model.specs.declared.entry.Entry.{Entry}
use Rattle.o2_model.specs.Words.{among}
use Rattle.o2_model.specs.Orders.{is_none_of}
use Rattle.o2_model.specs.Volume.{Volume}
use Rattle.o2_model.specs.Inodes.{is_directory}
use Rattle.o2_model.specs.Directories.{directory_entries}
use Rattle.o2_model.specs.Groups.{inodes_of, is_inode}
use Rattle.o2_model.specs.Indexes.{index_root, index_extents, index_leaves, indexed_directories, is_index_root, is_inline_index, is_sound_dx_list, is_sound_index_leaf}
use Rattle.o2_model.specs.SoundIndexes.{index_root_origin, has_trailers, has_sound_index_counts, is_found_in_index}
use Rattle.o2_ondisk.specs.DxRoots.{dx_root_list_place}
use Rattle.o2_tables.specs.Rows.{run_of, IsInodeRow, AreExtentBlockRows}
use Rattle.o2_tables.specs.declared.inodes.InodeRow.{InodeRow}
use Rattle.o2_tree.specs.declared.directories.DirectoryRow.{DirectoryRow}
use Rattle.o2_tree.specs.declared.directories.EntryName.{EntryName}
use Rattle.o2_tree.specs.declared.directories.EntryName.TheVariants.{Itself, Parent, Other}
use Rattle.o2_tree.specs.declared.directories.EntryRow.{EntryRow}
use Rattle.o2_tree.specs.declared.indexes.IndexRow.{IndexRow}

-- ---- entries
abbrev pub name_of : List ℕ → EntryName
name_of name = if bytes_eq name (codes ".") then Itself else (if bytes_eq name (codes "..") then Parent else Other)

abbrev pub row_of : Entry → EntryRow
row_of e = record { inode = e.inode; file_type = e.file_type; name = name_of e.name; block = e.block }

-- ---- directories
-- the directories of the volume, rising, in the tree or not
abbrev pub all_directories : Volume → List ℕ
all_directories v = filter (is_directory v) (inodes_of v)

-- The row tells the directory's entries.
pub record IsDirectoryRow (v : Volume) (row : DirectoryRow) : Type 0 where
  pub entries : row.entries ≡ map row_of (directory_entries v row.block)

-- The rows are those of the directories, rising.
pub record IsDirectoryTable (v : Volume) (rows : List DirectoryRow) : Type 0 where
  pub directories : map (λ r. r.block) rows ≡ all_directories v
  pub each : AllByRecursion (IsDirectoryRow v) rows

-- ---- rows that were found
-- There is an inode in the block, and this is its row.
pub record IsInodeAt (v : Volume) (b : ℕ) (row : InodeRow) : Type 0 where
  pub block : row.block ≡ b
  pub is : is_inode v b ≡ true
  pub says : IsInodeRow v row

-- There is a directory in the block, and this is its row.
pub record IsDirectoryAt (v : Volume) (b : ℕ) (row : DirectoryRow) : Type 0 where
  pub block : row.block ≡ b
  pub is : among (all_directories v) b ≡ true
  pub says : IsDirectoryRow v row

-- ---- indexes
-- its list and its leaves are well formed, or the list of entries in the root is
abbrev pub has_sound_form : Volume → ℕ → Bool
has_sound_form v d =
    if is_inline_index v (index_root v d)
    then is_sound_dx_list v dx_root_list_place (index_root v d)
    else is_none_of (index_extents v d).faults && list_all (is_sound_index_leaf v) (index_leaves v d)

-- What an index is asked by itself: the root is one, its lists are well formed, the directory's blocks have trailers, and the
-- entries of both agree.
unfoldable pub is_sound_index_alone : Volume → ℕ → Bool
is_sound_index_alone v d =
    is_index_root v d (index_root v d)
    && has_sound_form v d
    && has_trailers v d
    && has_sound_index_counts v d
    && is_found_in_index v d

-- The row tells what the index of its directory says.
pub record IsIndexRow (v : Volume) (row : IndexRow) : Type 0 where
  pub root : row.root.block ≡ index_root v row.directory
  pub alone : row.is_sound_alone ≡ is_sound_index_alone v row.directory
  pub origin : row.is_sound_alone ≡ true → row.root.origin ≡ index_root_origin v (index_root v row.directory)
  pub extent_blocks : AreExtentBlockRows v (index_extents v row.directory).blocks row.extent_blocks
  pub runs : row.runs ≡ map (run_of v) (index_extents v row.directory).leaves

-- The rows are those of the indexes, by directory.
pub record IsIndexTable (v : Volume) (rows : List IndexRow) : Type 0 where
  pub directories : map (λ r. r.directory) rows ≡ indexed_directories v
  pub each : AllByRecursion (IsIndexRow v) rows
