-- The word asks for nothing at the end of a path.
use Rattle.o2_words.proofs.QueryWordLemmas.{asks_no_path}
use Rattle.o2_words.proofs.query_word.read_with_path.Goals as goal

pub returns : goal.returns
returns c = asks_no_path c.args.word.now c.in_default.ensures c.in_default-path_behind.ensures c.in_default-path_behind-2.ensures c.in_default-path_behind-3.ensures
