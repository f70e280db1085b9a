use Rattle.o2_laws.proofs.ChainEnds.{chain_ends}
use Rattle.o2_laws.proofs.walk_laws.chains_end.Goals as goal

pub returns : goal.returns
returns c = chain_ends
