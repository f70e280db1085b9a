-- A word that was read asks for something.
use Rattle.std.proofs.Common.{refl}
use Rattle.o2_words.proofs.QueryWordLemmas.{asked_word}
use Rattle.o2_words.proofs.query_word.is_query_word.Goals as goal

pub returns-in-Some : goal.returns-in-Some
returns-in-Some c = (λ _. asked_word c.in-Some.field-0 c.args.word.now c.in-Some.ensures, λ _. refl)
