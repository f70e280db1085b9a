use Rattle.o2_replay_laws.proofs.Replays.{length-replayed}
use Rattle.o2_replay_laws.proofs.replay_laws.replay_keeps_length.Goals as goal

pub returns : goal.returns
returns c = length-replayed
