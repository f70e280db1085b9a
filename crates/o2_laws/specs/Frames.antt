-- Volumes with the same bytes in some blocks, or with the same tables.
use Rattle.std.specs.Prelude.{◌≡◌, ◌⊎◌, ℕ, true, List, map, flat_map, filter, Some}
use Rattle.o2_model.specs.Words.{among}
use Rattle.o2_model.specs.Volume.{Volume, over}
use Rattle.o2_model.specs.Inodes.{leaf_records}
use Rattle.o2_model.specs.LeafRecords.{blocks_under}
use Rattle.o2_model.specs.Directories.{is_written, directory_entries, own_inodes}
use Rattle.o2_model.specs.declared.system_file.SystemFile.{SystemFile}
use Rattle.o2_model.specs.SystemFiles.{system_inode}
use Rattle.o2_model.specs.Groups.{GroupWalk, group_walk, is_bit_set, has_inode_bit, is_inode}
use Rattle.o2_model.specs.Tree.{TreeWalk}

-- these blocks have the same bytes
pub record SameOn (blocks : List ℕ) (v : Volume) (at : ℕ → List ℕ) : Type 0 where
  pub same : (b : ℕ) → among blocks b ≡ true → at b ≡ v.at b

-- the blocks of the groups that a walk met
abbrev pub group_blocks : GroupWalk → List ℕ
group_blocks w = map (λ g. g.block) w.groups

-- the directories that a walk entered
abbrev pub entered_inodes : TreeWalk → List ℕ
entered_inodes w = map (λ d. d.inode) w.entered

-- the root, or an inode
abbrev pub IsIn : Volume → ℕ → Type 0
IsIn v b = (b ≡ v.geo.root) ⊎ (is_inode v b ≡ true)

-- What the inodes and the tree stand on is the same: the groups and their bits, the blocks of inodes, and the entries.
pub record SameTables (v : Volume) (at : ℕ → List ℕ) : Type 0 where
  pub groups : group_walk (over v at) ≡ group_walk v
  pub bits : (b : ℕ) → among (group_blocks (group_walk v)) b ≡ true → (k : ℕ) → is_bit_set (over v at) b k ≡ is_bit_set v b k
  pub inodes : (b : ℕ) → has_inode_bit v b ≡ true → at b ≡ v.at b
  pub own : own_inodes (over v at) ≡ own_inodes v
  pub entries : (d : ℕ) → IsIn v d → directory_entries (over v at) d ≡ directory_entries v d

-- the blocks that the bytes of a file stand in, as far as they are outside its dinode and written
abbrev pub content_blocks : Volume → ℕ → List ℕ
content_blocks v b = flat_map (blocks_under v) (filter is_written (leaf_records v b))

-- What the allocators stand on is the same: the entries of the system directory, and the dinodes of the volume's own files.
pub record SameSystemFiles (v : Volume) (at : ℕ → List ℕ) : Type 0 where
  pub entries : directory_entries (over v at) v.geo.sysdir ≡ directory_entries v v.geo.sysdir
  pub dinodes : (file : SystemFile) (b : ℕ) → system_inode v file ≡ Some b → at b ≡ v.at b
