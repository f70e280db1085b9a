-- INODE_SUBALLOC, number 12, at the inode: i_suballoc_slot and i_suballoc_bit are those of its group and bit, and i_suballoc_loc
-- is 0 or the group.
use Rattle.std.specs.Prelude.{ℕ, List}
use Rattle.o2_model.specs.Faults.{fails_unless}
use Rattle.o2_model.specs.Volume.{Volume}
use Rattle.o2_model.specs.Allocators.{are_inodes}
use Rattle.o2_model.specs.Metadata.{has_origin, inode_origin}

-- that of one inode
abbrev pub inode_suballoc_faults : Volume → ℕ → List ℕ
inode_suballoc_faults v b = fails_unless b (has_origin v are_inodes (inode_origin v b) b)
