use Rattle.o2_laws.proofs.Readings.{extents_same}
use Rattle.o2_laws.proofs.extent_laws.other_blocks_keep_extents.Goals as goal

pub returns : goal.returns
returns c = extents_same
