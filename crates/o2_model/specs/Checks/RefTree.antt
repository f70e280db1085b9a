-- REF_TREE, number 30, at the refcount block, or the inode: an inode with refcounted records has a tree; its root and leaves are
-- refcount blocks of this volume with lists that fit; records rise without overlap, have clusters in range, and are referred to.
use Rattle.std.specs.Prelude.{ℕ, Bool, ◌&&◌, List, ◌++◌, flat_map, filter}
use Rattle.std.specs.List.{list_any}
use Rattle.o2_model.specs.Faults.{fails_at, fails_unless}
use Rattle.o2_model.specs.Orders.{is_none_of}
use Rattle.o2_model.specs.Volume.{Volume, is_in_range, dinode}
use Rattle.o2_model.specs.Inodes.{records_of}
use Rattle.o2_model.specs.LeafRecords.{is_refcounted}
use Rattle.o2_model.specs.Groups.{inodes_of}
use Rattle.o2_model.specs.RefcountTrees.{has_refcount, refcount_roots, is_refcount_block, leaf_list, refcounts}

-- `OCFS2_HAS_REFCOUNT_FL` is set, and i_refcount_loc is in range
abbrev pub has_tree : Volume → ℕ → Bool
has_tree v b = has_refcount v b && is_in_range v (dinode v b).refcount_loc

-- it has a record marked `OCFS2_EXT_REFCOUNTED`
abbrev pub has_refcounted : Volume → ℕ → Bool
has_refcounted v b = list_any is_refcounted (records_of v b)

-- the root is a refcount block, and its list of leaves, where it has one, is well formed
abbrev pub is_sound_root_block : Volume → ℕ → Bool
is_sound_root_block v root = is_refcount_block v root && is_none_of (leaf_list v root).faults

-- those of one tree
abbrev pub ref_tree_faults_of : Volume → ℕ → List ℕ
ref_tree_faults_of v root = fails_unless root (is_sound_root_block v root) ++ (refcounts v root).faults

abbrev pub ref_tree_faults : Volume → List ℕ
ref_tree_faults v =
    fails_at (λ b. b) (has_tree v) (filter (has_refcounted v) (inodes_of v))
    ++ flat_map (ref_tree_faults_of v) (refcount_roots v)
