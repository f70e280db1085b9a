-- The checks of the inode at the end of a path.
use Rattle.std.specs.Prelude.{ℕ, Bool, ◌&&◌, ◌||◌, not, List, [], ◌∷◌, ◌++◌, if◌then◌else◌}
use Rattle.o2_ondisk.specs.Bits.{has_bits, has_refcount_dyn_feature}
use Rattle.o2_ondisk.specs.Kinds.{kind_of_mode}
use Rattle.o2_ondisk.specs.declared.dinode.Dinode.{Dinode}
use Rattle.o2_model.specs.declared.check.Check.TheVariants as check
use Rattle.o2_model.specs.Faults.{fails_unless}
use Rattle.o2_model.specs.Inodes.{kind, is_directory_kind, is_file_kind}
use Rattle.o2_model.specs.Volume.{Volume, dinode}
use Rattle.o2_model.specs.Checks.InodeKind.{inode_kind_faults}
use Rattle.o2_model.specs.Checks.DirBlock.{dir_block_faults}
use Rattle.o2_model.specs.Checks.RefTree.{has_refcounted, has_tree, ref_tree_faults_of}
use Rattle.o2_view.specs.OwnChecks.{OwnCheck}
use Rattle.o2_dir.specs.Fails.{data_checks}
use Rattle.o2_debug.specs.declared.query.PathQuery.{PathQuery}
use Rattle.o2_debug.specs.declared.query.PathQuery.TheVariants.{Ls, Stat, Cat, Refcount}

-- what is judged of any inode: INODE_KIND, EXTENT and INODE_SIZE
abbrev pub object_checks : ℕ → List OwnCheck
object_checks b = record { check = check.InodeKind; faults = λ v. inode_kind_faults v b } ∷ data_checks b

-- ---- of a file that shares clusters
-- it is a file with HAS_REFCOUNT
abbrev pub is_sharing_file : Dinode → Bool
is_sharing_file d = is_file_kind (kind_of_mode d.mode) && has_bits d.dyn_features.0 has_refcount_dyn_feature

-- the inode has a tree, where it has records that are marked as shared
abbrev pub has_tree_for_records : Volume → ℕ → Bool
has_tree_for_records v b = not (has_refcounted v b) || has_tree v b

-- where REF_TREE fails for the tree that it names, and for itself
unfoldable pub tree_faults : Volume → ℕ → List ℕ
tree_faults v b = ref_tree_faults_of v (dinode v b).refcount_loc ++ fails_unless b (has_tree_for_records v b)

abbrev pub tree_checks : ℕ → List OwnCheck
tree_checks b = record { check = check.RefTree; faults = λ v. tree_faults v b } ∷ []

-- ---- for a query
-- what is judged for the query: these, and for entries DIR_BLOCK too, which fails for no inode but a directory, and for a tree
-- REF_TREE, which is asked of no inode but a file that shares clusters
abbrev pub query_checks : PathQuery → ℕ → List OwnCheck
query_checks (Ls path) b = object_checks b ++ record { check = check.DirBlock; faults = λ v. if is_directory_kind (kind v b) then dir_block_faults v b else [] } ∷ []
query_checks (Stat path) b = object_checks b
query_checks (Cat path) b = object_checks b
query_checks (Refcount path) b = object_checks b ++ record { check = check.RefTree; faults = λ v. if is_sharing_file (dinode v b) then tree_faults v b else [] } ∷ []
