-- The first clusters of the run were claimed.
use Rattle.std.proofs.Common.{◌≡◌}
use Rattle.std.specs.List.{range_with_len}
use Rattle.o2_model.specs.Claims.{claims_by}
use Rattle.o2_claims.specs.Owners.{clusters_of}
use Rattle.o2_judges_claims.specs.Adding.{AddsClaims}
use Rattle.o2_judges_claims.proofs.once.claim_run.Given as goal

abbrev pub invariant-loop-k : goal.invariant-loop-k
invariant-loop-k l = record {
  clusters : clusters_of l.claims ≡ clusters_of l.fn.claims;
  owners : AddsClaims (claims_by l.owner (range_with_len l.start l.k)) l.fn.claims l.claims;
}
