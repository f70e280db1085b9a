use Rattle.o2_model.proofs.Replays.{partial_self, stable_self}
use Rattle.o2_replay_laws.proofs.replay_laws.stable_image_can_be_replayed.Goals as goal

pub returns-clause-itself : goal.returns-clause-itself
returns-clause-itself c = partial_self

pub returns-clause-now : goal.returns-clause-now
returns-clause-now c = stable_self
