use Rattle.o2_replay_laws.proofs.Stable.FourTell.{four_tell}
use Rattle.o2_replay_laws.proofs.Stable.OneTransaction.{once_of_transaction}
use Rattle.o2_replay_laws.proofs.replay_laws.four_images_tell_stability.Goals as goal

pub returns-clause-stable : goal.returns-clause-stable
returns-clause-stable c = four_tell

pub returns-clause-one_transaction : goal.returns-clause-one_transaction
returns-clause-one_transaction c = once_of_transaction
