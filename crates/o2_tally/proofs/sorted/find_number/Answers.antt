-- Each number before the place where the search ends is below it, and each other one above.
use Rattle.o2_tally.proofs.Finds.{nowhere}
use Rattle.o2_tally.proofs.sorted.find_number.Goals as goal

pub returns-in-Err-clause-none : goal.returns-in-Err-clause-none
returns-in-Err-clause-none c = λ ns is. nowhere c.args.numbers.now ns c.args.number c.in-Err.field-0 is c.in-Err.ensures.position
