-- The claims of the groups so far were added.
use Rattle.std.proofs.Common.{◌≡◌, flat_map, take}
use Rattle.o2_claims.specs.Owners.{clusters_of}
use Rattle.o2_judges_claims.specs.Adding.{AddsClaims}
use Rattle.o2_judges_claims.specs.ClaimRows.{group_claims}
use Rattle.o2_judges_claims.proofs.structures.claim_groups.Given as goal

abbrev pub invariant-loop-row : goal.invariant-loop-row
invariant-loop-row l = record {
  clusters : clusters_of l.claims ≡ clusters_of l.fn.claims;
  owners : AddsClaims (flat_map (group_claims l.geo) (take l.row-index l.groups)) l.fn.claims l.claims;
}
