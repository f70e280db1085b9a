-- The allocator that a name tells is the definition's.
use Rattle.o2_survey.proofs.Rows.{told_some, told_none}
use Rattle.o2_survey.proofs.allocator_table.allocator_of.Goals as goal

pub returns-in-Some : goal.returns-in-Some
returns-in-Some c v are = told_some v c.args.bit_use c.args.slot c.in-Some.block c.args.file (c.in-Some.ensures.told v are)

pub returns-in-None : goal.returns-in-None
returns-in-None c v are = told_none v c.args.bit_use c.args.slot c.args.file (c.in-None.ensures.told v are)
