-- The inodes so far.
use Rattle.std.proofs.Common.{◌≡◌, flat_map, take}
use Rattle.o2_judges_refcount.specs.TreeRows.{inode_faults}
use Rattle.o2_judges_refcount.proofs.trees.without_tree.Given as goal

abbrev pub invariant-loop-row : goal.invariant-loop-row
invariant-loop-row l = l.found.items ≡ flat_map inode_faults (take l.row-index l.inodes)
