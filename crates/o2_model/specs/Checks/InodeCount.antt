-- INODE_COUNT, number 36, at the inode: one that the walk of the tree meets has as many links as live entries of the tree name
-- it, the dots among them.
use Rattle.std.specs.Prelude.{ℕ, ◌%◌, ◌^◌, ◌==◌, List}
use Rattle.o2_model.specs.Faults.{fails_at}
use Rattle.o2_model.specs.Volume.{Volume, dinode}
use Rattle.o2_model.specs.Files.{links_of}
use Rattle.o2_model.specs.Tree.{met_inodes, link_count}

abbrev pub inode_count_faults : Volume → List ℕ
inode_count_faults v = fails_at (λ b. b) (λ b. links_of (dinode v b) == link_count v b % 2 ^ 32) (met_inodes v)
