-- The first clusters are claimed.
use Rattle.std.proofs.Common.{◌≡◌, ◌++◌, ◌-◌, ◌≤◌, List}
use Rattle.std.specs.List.{range_with_len}
use Rattle.o2_model.specs.declared.claim.Claim.{Claim}
use Rattle.o2_model.specs.Claims.{claims_by}
use Rattle.o2_claims.specs.Owners.{clusters_of, AreOwners}
use Rattle.o2_judges_windows.proofs.claiming.claim_below.Given as goal

abbrev pub invariant-loop-cluster : goal.invariant-loop-cluster
invariant-loop-cluster l = record {
  low : l.start ≤ l.cluster;
  few : l.cluster - l.start ≤ l.end - l.start;
  clusters : clusters_of l.claims ≡ clusters_of l.fn.claims;
  owners : (before : List Claim) → AreOwners before l.fn.claims → AreOwners (before ++ claims_by l.owner (range_with_len l.start (l.cluster - l.start))) l.claims;
}
