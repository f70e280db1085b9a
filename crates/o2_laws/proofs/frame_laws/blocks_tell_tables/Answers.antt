use Rattle.o2_laws.proofs.SameInodes.{tables_of_blocks}
use Rattle.o2_laws.proofs.frame_laws.blocks_tell_tables.Goals as goal

pub returns : goal.returns
returns c = tables_of_blocks
