-- The number is what is behind the name.
use Rattle.o2_words.proofs.QueryWordLemmas.{number_is_behind}
use Rattle.o2_words.proofs.query_word.names_number.Goals as goal

pub returns-in-Some : goal.returns-in-Some
returns-in-Some c =
    let number = c.in-Some.number.now in (
      λ is. (number, record { form = c.in-Some.ensures; is = c.is_number.ensures.0 is }),
      λ named. c.is_number.ensures.1 (number_is_behind c.args.name.now c.args.word.now number c.in-Some.ensures named),
    )
