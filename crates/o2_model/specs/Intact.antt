-- The files that a repair must not lose.
use Rattle.std.specs.Prelude.{◌≡◌, ℕ, ◌+◌, Bool, true, false, ◌&&◌, ◌||◌, not, List, map, filter, length, take, Some}
use Rattle.std.specs.List.{range_with_len, list_all}
use Rattle.std.specs.Option.{option_map_or}
use Rattle.o2_model.specs.Orders.{is_none_of}
use Rattle.o2_model.specs.Volume.{Volume, dinode}
use Rattle.o2_model.specs.Inodes.{kind, is_directory, is_file, is_link, extent_blocks_of}
use Rattle.o2_model.specs.Contents.{content_of}
use Rattle.o2_model.specs.Tree.{tree_walk, inode_at}
use Rattle.o2_model.specs.Files.{attributes_of}
use Rattle.o2_model.specs.Checks.InodeKind.{inode_kind_faults}
use Rattle.o2_model.specs.Checks.Extent.{extent_faults}
use Rattle.o2_model.specs.Checks.MetaBlock.{is_sound_metadata_block}
use Rattle.o2_model.specs.Checks.InodeSize.{inode_size_faults}
use Rattle.o2_model.specs.Checks.DirBlock.{dir_block_faults}
use Rattle.o2_model.specs.Checks.DirentName.{dirent_name_faults}
use Rattle.o2_model.specs.Checks.DirentDup.{dirent_dup_faults}
use Rattle.o2_model.specs.Checks.DupClusters.{uses_by, is_sole_or_shared}
use Rattle.o2_model.specs.Checks.RefTree.{has_tree, has_refcounted, ref_tree_faults_of}
use Rattle.o2_model.specs.Checks.RefCover.{is_covering}

-- ---- intact inodes
-- INODE_KIND, EXTENT, META_BLOCK, INODE_SIZE and DUP_CLUSTERS hold for the inode and its extent blocks
abbrev pub has_sound_data : Volume → ℕ → Bool
has_sound_data v b =
    is_none_of (inode_kind_faults v b)
    && is_none_of (extent_faults v b)
    && list_all (is_sound_metadata_block v) (extent_blocks_of v b)
    && is_none_of (inode_size_faults v b)
    && list_all (is_sole_or_shared v) (uses_by v b)

-- DIR_BLOCK, DIRENT_NAME and DIRENT_DUP hold for the directory
abbrev pub has_sound_entries : Volume → ℕ → Bool
has_sound_entries v d =
    is_none_of (dir_block_faults v d)
    && is_none_of (dirent_name_faults v d)
    && is_none_of (dirent_dup_faults v d)

-- REF_TREE and REF_COVER hold for the inode's tree
abbrev pub has_sound_sharing : Volume → ℕ → Bool
has_sound_sharing v b =
    has_tree v b
    && is_none_of (ref_tree_faults_of v (dinode v b).refcount_loc)
    && is_covering v (dinode v b).refcount_loc

unfoldable pub is_intact_inode : Volume → ℕ → Bool
is_intact_inode v b =
    has_sound_data v b
    && (not (is_directory v b) || has_sound_entries v b)
    && (not (has_refcounted v b) || has_sound_sharing v b)

-- ---- intact paths
-- the inode at the path and each directory on its way are intact
unfoldable pub is_intact : Volume → List (List ℕ) → Bool
is_intact v path = list_all (λ j. option_map_or (is_intact_inode v) (inode_at v (take j path)) false) (range_with_len 0 (length path + 1))

-- the paths of the tree that are
abbrev pub intact_paths : Volume → List (List (List ℕ))
intact_paths v = filter (is_intact v) (map (λ n. n.0) (tree_walk v).names)

-- ---- what is kept of them
-- The inode is the same to a user: its kind and size, and of a file or a link what it holds and its attributes.
pub record IsSameInode (old new : Volume) (b : ℕ) : Type 0 where
  pub kind : kind new b ≡ kind old b
  pub size : (dinode new b).size ≡ (dinode old b).size
  pub content : (is_file old b || is_link old b) ≡ true → content_of new b ≡ content_of old b
  pub attributes : (is_file old b || is_link old b) ≡ true → attributes_of new b ≡ attributes_of old b

-- Each path that was intact still is, with the same inode.
pub record KeepsIntact (old new : Volume) : Type 0 where
  pub intact : (path : List (List ℕ)) → is_intact old path ≡ true → is_intact new path ≡ true
  pub inode : (path : List (List ℕ)) → is_intact old path ≡ true → inode_at new path ≡ inode_at old path
  pub same : (path : List (List ℕ)) (b : ℕ) → is_intact old path ≡ true → inode_at old path ≡ Some b → IsSameInode old new b
