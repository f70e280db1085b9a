-- Those of the entries so far were put.
use Rattle.std.proofs.Common.{take}
use Rattle.o2_judges_inodes.specs.OrphanRows.{AreNamed}
use Rattle.o2_judges_inodes.proofs.named.named_inodes.Given as goal

abbrev pub invariant-loop-entry : goal.invariant-loop-entry
invariant-loop-entry l = AreNamed (take l.entry-index l.entries) l.named
