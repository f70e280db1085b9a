-- The claims of the runs so far were looked through.
use Rattle.std.proofs.Common.{◌≡◌, take}
use Rattle.o2_judges_claims.specs.ClaimRows.{runs_claims}
use Rattle.o2_check.specs.OwnersAt.{AddsOwners}
use Rattle.o2_check.proofs.found.add_runs.Given as goal

abbrev pub invariant-loop-run : goal.invariant-loop-run
invariant-loop-run l = AddsOwners (runs_claims l.owner (take l.run-index l.runs)) l.cluster l.fn.owners.items l.owners.items
