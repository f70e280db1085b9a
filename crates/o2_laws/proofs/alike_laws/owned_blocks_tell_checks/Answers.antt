use Rattle.o2_laws.proofs.Kept.KeptChecks.{check_keeps, none_fails_over}
use Rattle.o2_laws.proofs.Held.HeldBlocks.{on_held}
use Rattle.o2_laws.proofs.Kept.JournalSupers.{sound_supers}
use Rattle.o2_laws.proofs.alike_laws.owned_blocks_tell_checks.Goals as goal

pub returns-clause-faults : goal.returns-clause-faults
returns-clause-faults c = λ v at check none agrees. check_keeps v at none (on_held v at agrees) (sound_supers v at none agrees) check

pub returns-clause-none : goal.returns-clause-none
returns-clause-none c = λ v at none agrees. none_fails_over v at none (on_held v at agrees) (sound_supers v at none agrees)
