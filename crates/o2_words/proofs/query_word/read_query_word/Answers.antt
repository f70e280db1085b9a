-- The word asks for nothing.
use Rattle.o2_words.proofs.QueryWordLemmas.{asks_nothing}
use Rattle.o2_words.proofs.query_word.read_query_word.Goals as goal

pub returns : goal.returns
returns c = asks_nothing c.args.word.now (λ is. let b = c.if-is_just.ensures.1 is in cc b) (λ is. let b = c.if-is_just-2.ensures.1 is in cc b) c.in_default.ensures (λ is. let b = c.if-is_for_later.ensures.1 is in cc b)
