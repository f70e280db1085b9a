use Rattle.o2_laws.proofs.TreeEnds.{apart_after}
use Rattle.o2_laws.proofs.walk_laws.no_directory_is_entered_twice.Goals as goal

pub returns : goal.returns
returns c = λ v root k. (apart_after v root k).apart
