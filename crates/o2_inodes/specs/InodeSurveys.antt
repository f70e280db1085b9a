-- What a pass over inodes tells of them.
use Rattle.std.specs.Prelude.{◌≡◌, ℕ, ◌==◌, List, [], map, filter, flat_map, if◌then◌else◌}
use Rattle.std.specs.List.{AllByRecursion}
use Rattle.o2_ondisk.specs.Bits.{has_bits, has_xattr_dyn_feature}
use Rattle.o2_model.specs.Faults.{fails_at, fails_unless}
use Rattle.o2_model.specs.Volume.{Volume, dinode}
use Rattle.o2_model.specs.Inodes.{extents as extents_in, extent_lists_of, has_list, is_directory}
use Rattle.o2_model.specs.Orders.{rising}
use Rattle.o2_model.specs.Checks.InodeKind.{inode_kind_faults}
use Rattle.o2_model.specs.Checks.Extent.{extent_faults}
use Rattle.o2_model.specs.Checks.InodeSize.{inode_size_faults}
use Rattle.o2_model.specs.Checks.EbNext.{leaf_blocks, next_faults}
use Rattle.o2_model.specs.Checks.LastEb.{last_leaf}
use Rattle.o2_model.specs.Checks.DirBlock.{dir_block_faults}
use Rattle.o2_model.specs.Checks.DirentName.{dirent_name_faults}
use Rattle.o2_model.specs.Checks.DirentDup.{dirent_dup_faults}
use Rattle.o2_tables.specs.Rows.{IsInodeRow}
use Rattle.o2_inodes.specs.Directories.{AreDirectories}
use Rattle.o2_inodes.specs.Indexes.{AreIndexes}
use Rattle.o2_inodes.specs.declared.survey.InodeSurvey.{InodeSurvey}

-- What was read of these inodes, in order, and where checks that are judged inode by inode fail for them.
pub record TellsInodes (v : Volume) (bs : List ℕ) (survey : InodeSurvey) : Type 0 where
  pub inodes : map (λ r. r.block) survey.rows.items ≡ bs
  pub each : AllByRecursion (IsInodeRow v) survey.rows.items
  pub kinds : survey.kinds.items ≡ flat_map (inode_kind_faults v) bs
  pub extents : survey.extents.items ≡ flat_map (extent_faults v) bs
  pub sizes : survey.sizes.items ≡ flat_map (inode_size_faults v) bs
  pub next : survey.next_leaves.items ≡ flat_map (λ t. next_faults v (leaf_blocks v t)) (flat_map (extent_lists_of v) bs)
  pub last : survey.last_leaves.items ≡ fails_at (λ b. b) (λ b. (dinode v b).last_eb_blk == last_leaf v (extents_in v b)) (filter (has_list v) bs)
  pub directories : AreDirectories v bs survey.directories.items
  pub dir_blocks : survey.dir_blocks.items ≡ flat_map (dir_block_faults v) (filter (is_directory v) bs)
  pub names : survey.names.items ≡ flat_map (dirent_name_faults v) (filter (is_directory v) bs)
  pub again : rising survey.again.items ≡ rising (flat_map (dirent_dup_faults v) (filter (is_directory v) bs))
  pub indexes : AreIndexes v bs survey.indexes.items
  pub attributes : survey.attributes.items ≡ filter (λ b. has_bits (dinode v b).dyn_features.0 has_xattr_dyn_feature) bs

-- LAST_EB of one inode, where it has a list
abbrev pub last_faults_of : Volume → ℕ → List ℕ
last_faults_of v b = if has_list v b then fails_unless b ((dinode v b).last_eb_blk == last_leaf v (extents_in v b)) else []
