use Rattle.o2_replay_laws.proofs.Replays.{no_variant}
use Rattle.o2_replay_laws.proofs.replay_laws.clean_image_has_no_variant.Goals as goal

pub returns : goal.returns
returns c = no_variant
