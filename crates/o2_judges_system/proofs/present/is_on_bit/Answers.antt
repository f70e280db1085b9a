-- What the search tells.
use Rattle.o2_judges_system.proofs.OnBits.{on_bit, off_bit}
use Rattle.o2_judges_system.proofs.present.is_on_bit.Goals as goal

pub returns-in-Some : goal.returns-in-Some
returns-in-Some c v are = on_bit v c.args.blocks.now are c.args.b c.in-Some._at c.in-Some.ensures.found

pub returns-in-None : goal.returns-in-None
returns-in-None c v are = off_bit v c.args.blocks.now are c.args.b c.in-None.ensures.none
