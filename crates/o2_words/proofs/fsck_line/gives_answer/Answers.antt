-- Other words are too many or too few.
use Rattle.std.proofs.Common.{arith, string_bytes}
use Rattle.std.proofs.lemmas.List.{length-map}
use Rattle.o2_words.specs.CommandLine.{texts}
use Rattle.o2_words.proofs.FsckLines.{how_many}
use Rattle.o2_words.proofs.fsck_line.gives_answer.Goals as goal

pub returns-in_default-2 : goal.returns-in_default-2
returns-in_default-2 c = (
  λ is. absurd (let none : ⊥ = cc is in none),
  λ line. absurd (let many = how_many c.args.answer (texts c.args.words.now) line in omega (arith, many.1, length-map c.args.words.now string_bytes, c.in_default.len_at_least)),
)
