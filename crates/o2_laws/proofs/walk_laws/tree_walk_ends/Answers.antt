use Rattle.o2_laws.proofs.TreeEnds.{walk_ends}
use Rattle.o2_laws.proofs.walk_laws.tree_walk_ends.Goals as goal

pub returns : goal.returns
returns c = walk_ends
