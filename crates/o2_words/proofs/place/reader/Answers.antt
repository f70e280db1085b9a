-- No part reads the word.
use Rattle.std.proofs.Common.{arith}
use Rattle.o2_words.proofs.Readings.{some_part}
use Rattle.o2_words.proofs.place.reader.Goals as goal

pub returns : goal.returns
returns c = λ place is. (c.loop-place.invariant place some_part (omega arith) (omega (arith, is.within))).unread (is.reads some_part)
