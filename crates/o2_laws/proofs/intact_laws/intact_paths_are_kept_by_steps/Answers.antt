use Rattle.o2_laws.proofs.IntactSteps.{keeps_itself, keeps_by_steps}
use Rattle.o2_laws.proofs.intact_laws.intact_paths_are_kept_by_steps.Goals as goal

pub returns-clause-itself : goal.returns-clause-itself
returns-clause-itself c = keeps_itself

pub returns-clause-steps : goal.returns-clause-steps
returns-clause-steps c = keeps_by_steps
