use Rattle.o2_replay_laws.proofs.Recoverables.{consistent_recoverable}
use Rattle.o2_model.proofs.Recoverables.{recoverable_repairable}
use Rattle.o2_replay_laws.proofs.replay_laws.consistent_images_are_recoverable.Goals as goal

pub returns-clause-recoverable : goal.returns-clause-recoverable
returns-clause-recoverable c = consistent_recoverable

pub returns-clause-repairable : goal.returns-clause-repairable
returns-clause-repairable c = recoverable_repairable
