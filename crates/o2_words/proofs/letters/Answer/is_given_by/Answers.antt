-- The word has one of three texts.
use Rattle.std.proofs.Common.{sym, subst}
use Rattle.o2_words.specs.LetterWords.{IsAnswerWord}
use Rattle.o2_words.specs.declared.letters.Answer.{Answer}
use Rattle.o2_words.specs.declared.letters.Answer.TheVariants.{No, Yes}
use Rattle.o2_words.proofs.LetterLemmas.{written_word, answer_word}
use Rattle.o2_words.proofs.letters.Answer.is_given_by.Goals as goal

pub returns-in-No : goal.returns-in-No
returns-in-No c =
    let word = c.args.word.now in (
      λ is. subst (λ (a : Answer). IsAnswerWord a word) (sym c.in-No.is) (answer_word No word (c.is_one_of.ensures.0 is)),
      λ gives. c.is_one_of.ensures.1 (written_word No word (subst (λ (a : Answer). IsAnswerWord a word) c.in-No.is gives)),
    )

pub returns-in-Yes : goal.returns-in-Yes
returns-in-Yes c =
    let word = c.args.word.now in (
      λ is. subst (λ (a : Answer). IsAnswerWord a word) (sym c.in-Yes.is) (answer_word Yes word (c.is_one_of-in-Yes.ensures.0 is)),
      λ gives. c.is_one_of-in-Yes.ensures.1 (written_word Yes word (subst (λ (a : Answer). IsAnswerWord a word) c.in-Yes.is gives)),
    )
