-- ORPHAN_FLAG, number 27, at the inode: one that the walk of the tree meets has no `OCFS2_ORPHANED_FL`.
use Rattle.std.specs.Prelude.{ℕ, Bool, not, List}
use Rattle.o2_ondisk.specs.Bits.{has_bits, orphaned_inode_flag}
use Rattle.o2_model.specs.Faults.{fails_at}
use Rattle.o2_model.specs.Volume.{Volume, dinode}
use Rattle.o2_model.specs.Tree.{met_inodes}

abbrev pub is_orphaned : Volume → ℕ → Bool
is_orphaned v b = has_bits (dinode v b).flags.0 orphaned_inode_flag

abbrev pub orphan_flag_faults : Volume → List ℕ
orphan_flag_faults v = fails_at (λ b. b) (λ b. not (is_orphaned v b)) (met_inodes v)
