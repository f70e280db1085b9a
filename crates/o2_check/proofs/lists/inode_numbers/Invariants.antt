-- The blocks of the rows so far were put.
use Rattle.std.proofs.Common.{map, take}
use Rattle.o2_check.specs.Numbers.{AreNumbers}
use Rattle.o2_check.proofs.lists.inode_numbers.Given as goal

abbrev pub invariant-loop-row : goal.invariant-loop-row
invariant-loop-row l = AreNumbers (map (λ r. r.block) (take l.row-index l.inodes)) l.set
