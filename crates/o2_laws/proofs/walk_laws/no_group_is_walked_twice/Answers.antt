use Rattle.o2_laws.proofs.ChainEnds.{groups_apart}
use Rattle.o2_laws.proofs.walk_laws.no_group_is_walked_twice.Goals as goal

pub returns : goal.returns
returns c = groups_apart
