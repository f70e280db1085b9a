use Rattle.o2_laws.proofs.Failing.{holds_everywhere}
use Rattle.o2_laws.proofs.NothingFails.{no_check_fails}
use Rattle.o2_laws.proofs.check_laws.each_check_holds.Goals as goal

pub returns-clause-faults : goal.returns-clause-faults
returns-clause-faults c = no_check_fails

pub returns-clause-holds : goal.returns-clause-holds
returns-clause-holds c = λ v none check b. holds_everywhere v check (no_check_fails v none check) b
