-- The bytes from this one on are still to be put behind the word.
use Rattle.std.proofs.Common.{◌≡◌, drop}
use Rattle.o2_ondisk.specs.NameHashes.{word_of}
use Rattle.o2_ondisk.proofs.hash.word_behind.Given as goal

abbrev pub invariant-loop-byte : goal.invariant-loop-byte
invariant-loop-byte l = word_of l.word (drop l.byte-index l.bytes) ≡ word_of l.fn.pad l.fn.bytes
