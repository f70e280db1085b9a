-- The bytes of the entries so far, each as long as it needs to be.
use Rattle.std.proofs.Common.{take}
use Rattle.o2_dir.proofs.Pieces.{IsFront}
use Rattle.o2_dir.proofs.piece.piece_of.Given as goal

abbrev pub invariant-loop-entry : goal.invariant-loop-entry
invariant-loop-entry l = IsFront l.bytes.items (take l.entry-index l.entries)
