-- Words that are no command line, or ask for what is not answered.
use Rattle.o2_words.specs.CommandLine.{texts}
use Rattle.o2_words.proofs.Lines.{usage_of}
use Rattle.o2_words.proofs.Shapes.{asked_fault}
use Rattle.o2_words.proofs.words.read_words.Goals as goal

pub returns-in-Err : goal.returns-in-Err
returns-in-Err c = asked_fault (texts c.args.words.now) c.in-Some-read_asked.asked c.in-Err.fault c.in-Some-read_asked.ensures c.in-Err.ensures

pub returns : goal.returns
returns c = usage_of (texts c.args.words.now) c.in_ok-place.place (λ built. let b = c.if-is_not_built.ensures.1 built in cc b) c.in_default.ensures c.in_default-read_asked.ensures c.in-None.ensures c.in_ok-place.ensures.reaches
