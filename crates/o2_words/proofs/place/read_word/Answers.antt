-- No part reads the word.
use Rattle.o2_words.proofs.place.read_word.Goals as goal

pub returns-in-None : goal.returns-in-None
returns-in-None c = λ rest follows. c.in-None.ensures follows.place follows.reader
