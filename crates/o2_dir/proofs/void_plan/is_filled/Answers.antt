-- An entry would end behind the bytes.
use Rattle.o2_dir.proofs.VoidedEntries.{begins_without}
use Rattle.o2_dir.proofs.void_plan.is_filled.Goals as goal

pub returns-clause-bad : goal.returns-clause-bad
returns-clause-bad c small es found begins = begins_without c.args.at es c.args.bytes.now small found begins
