-- None of the entries so far names the inode.
use Rattle.std.proofs.Common.{◌≡◌, false, take}
use Rattle.o2_dir.proofs.OwnInodes.{names}
use Rattle.o2_dir.proofs.own_inodes.are_naming.Given as goal

abbrev pub invariant-loop-entry : goal.invariant-loop-entry
invariant-loop-entry l = names (take l.entry-index l.entries) l.inode ≡ false
