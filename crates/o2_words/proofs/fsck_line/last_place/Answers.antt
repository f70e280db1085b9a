-- There are four words at most.
use Rattle.std.proofs.Common.{arith, string_bytes}
use Rattle.std.proofs.lemmas.List.{length-map}
use Rattle.o2_words.specs.CommandLine.{texts}
use Rattle.o2_words.proofs.FsckLines.{how_many}
use Rattle.o2_words.proofs.fsck_line.last_place.Goals as goal

pub overflow_cast-result : goal.overflow_cast-result
overflow_cast-result c = let many = how_many c.requires.0 (texts c.args.words.now) c.requires.1 in omega (arith, many.1, length-map c.args.words.now string_bytes)
