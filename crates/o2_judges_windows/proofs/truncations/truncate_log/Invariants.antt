-- The first logs are judged.
use Rattle.std.proofs.Common.{◌≡◌, List, map, take}
use Rattle.o2_model.specs.declared.claim.Claim.{Claim}
use Rattle.o2_model.specs.Volume.{Volume}
use Rattle.o2_claims.specs.Owners.{clusters_of, AreOwners}
use Rattle.o2_windows.specs.SlotRows.{IsTruncateLogTable}
use Rattle.o2_judges_windows.proofs.SlotWalks.{claims_after, faults_after}
use Rattle.o2_judges_windows.proofs.LogsTold.{log_step, holds_log}
use Rattle.o2_judges_windows.proofs.truncations.truncate_log.Given as goal

abbrev pub invariant-loop-row : goal.invariant-loop-row
invariant-loop-row l = record {
  clusters : clusters_of l.claims ≡ clusters_of l.fn.claims;
  found : (v : Volume) (earlier : List Claim) → clusters_of l.fn.claims ≡ v.geo.clusters → IsTruncateLogTable v l.logs → AreOwners earlier l.fn.claims
      → l.found.items ≡ faults_after (log_step v) (holds_log v) earlier (map (λ r. (r.slot, r.inode)) (take l.row-index l.logs));
  owners : (v : Volume) (earlier : List Claim) → clusters_of l.fn.claims ≡ v.geo.clusters → IsTruncateLogTable v l.logs → AreOwners earlier l.fn.claims
      → AreOwners (claims_after (log_step v) earlier (map (λ r. (r.slot, r.inode)) (take l.row-index l.logs))) l.claims;
}
