use Rattle.o2_words.proofs.Lines.{line_of, is_line}
use Rattle.o2_words.proofs.laws.forms_are_lines.Goals as goal

pub returns : goal.returns
returns c words = (line_of words, is_line words)
