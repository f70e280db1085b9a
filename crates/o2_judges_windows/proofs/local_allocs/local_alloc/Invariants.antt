-- The first windows are judged.
use Rattle.std.proofs.Common.{◌≡◌, List, map, take}
use Rattle.o2_model.specs.declared.claim.Claim.{Claim}
use Rattle.o2_model.specs.Claims.{with_window_of}
use Rattle.o2_model.specs.Volume.{Volume}
use Rattle.o2_claims.specs.Owners.{clusters_of, AreOwners}
use Rattle.o2_windows.specs.SlotRows.{IsWindowTable}
use Rattle.o2_judges_windows.proofs.SlotWalks.{claims_after, faults_after}
use Rattle.o2_judges_windows.proofs.WindowsTold.{holds_window}
use Rattle.o2_judges_windows.proofs.local_allocs.local_alloc.Given as goal

abbrev pub invariant-loop-row : goal.invariant-loop-row
invariant-loop-row l = record {
  clusters : clusters_of l.claims ≡ clusters_of l.fn.claims;
  found : (v : Volume) (earlier : List Claim) → clusters_of l.fn.claims ≡ v.geo.clusters → IsWindowTable v l.windows → AreOwners earlier l.fn.claims
      → l.found.items ≡ faults_after (with_window_of v) (holds_window v) earlier (map (λ r. (r.slot, r.inode)) (take l.row-index l.windows));
  owners : (v : Volume) (earlier : List Claim) → clusters_of l.fn.claims ≡ v.geo.clusters → IsWindowTable v l.windows → AreOwners earlier l.fn.claims
      → AreOwners (claims_after (with_window_of v) earlier (map (λ r. (r.slot, r.inode)) (take l.row-index l.windows))) l.claims;
}
