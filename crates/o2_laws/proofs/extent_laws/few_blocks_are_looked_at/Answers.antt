use Rattle.o2_model.proofs.Looks.{looks_at_few}
use Rattle.o2_laws.proofs.extent_laws.few_blocks_are_looked_at.Goals as goal

pub returns : goal.returns
returns c = looks_at_few
