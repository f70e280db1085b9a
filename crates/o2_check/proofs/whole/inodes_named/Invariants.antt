-- The inodes of the entries so far were put.
use Rattle.std.proofs.Common.{◌≡◌, map, take}
use Rattle.o2_check.proofs.whole.inodes_named.Given as goal

abbrev pub invariant-loop-entry : goal.invariant-loop-entry
invariant-loop-entry l = l.inodes.items ≡ map (λ e. e.inode) (take l.entry-index l.entries)
