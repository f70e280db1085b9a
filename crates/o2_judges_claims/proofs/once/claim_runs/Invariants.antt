-- The claims of the runs so far were added.
use Rattle.std.proofs.Common.{◌≡◌, flat_map, take}
use Rattle.o2_claims.specs.Owners.{clusters_of}
use Rattle.o2_judges_claims.specs.Adding.{AddsClaims}
use Rattle.o2_judges_claims.specs.ClaimRows.{run_claims}
use Rattle.o2_judges_claims.proofs.once.claim_runs.Given as goal

abbrev pub invariant-loop-run : goal.invariant-loop-run
invariant-loop-run l = record {
  clusters : clusters_of l.claims ≡ clusters_of l.fn.claims;
  owners : AddsClaims (flat_map (run_claims l.owner) (take l.run-index l.runs)) l.fn.claims l.claims;
}
