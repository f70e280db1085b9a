-- The parts so far may be left out, and don't read the word.
use Rattle.std.specs.List.{AllWithin}
use Rattle.o2_words.specs.Forms.{IsPassed}
use Rattle.o2_words.proofs.place.reader.Given as goal

abbrev pub invariant-loop-place : goal.invariant-loop-place
invariant-loop-place l = AllWithin (IsPassed l.word) l.form 0 l.place
