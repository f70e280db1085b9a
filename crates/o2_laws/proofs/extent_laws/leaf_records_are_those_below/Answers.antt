use Rattle.o2_laws.proofs.Readings.{leaf_records_are}
use Rattle.o2_laws.proofs.extent_laws.leaf_records_are_those_below.Goals as goal

pub returns : goal.returns
returns c = leaf_records_are
