use Rattle.o2_laws.proofs.NothingDirty.{consistent_clean, none_committed, consistent_replayed}
use Rattle.o2_replay_laws.proofs.replay_laws.consistent_image_stays.Goals as goal

pub returns-clause-slots : goal.returns-clause-slots
returns-clause-slots c = consistent_clean

pub returns-clause-writes : goal.returns-clause-writes
returns-clause-writes c = none_committed

pub returns-clause-image : goal.returns-clause-image
returns-clause-image c = consistent_replayed
