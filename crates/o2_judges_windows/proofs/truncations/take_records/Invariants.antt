-- The first records are taken.
use Rattle.std.proofs.Common.{◌≡◌, List, map, take, fold}
use Rattle.o2_ondisk.specs.declared.truncate_rec.TruncateRec.{TruncateRec}
use Rattle.o2_model.specs.declared.claim.Claim.{Claim}
use Rattle.o2_model.specs.Checks.TruncateLog.{are_sound_truncations}
use Rattle.o2_model.specs.Claims.{with_truncation}
use Rattle.o2_model.specs.Volume.{Volume}
use Rattle.o2_slots.specs.Truncations.{run_of}
use Rattle.o2_claims.specs.Owners.{clusters_of, AreOwners}
use Rattle.o2_judges_windows.proofs.truncations.take_records.Given as goal

abbrev pub invariant-loop-run : goal.invariant-loop-run
invariant-loop-run l = record {
  clusters : clusters_of l.claims ≡ clusters_of l.fn.claims;
  hold : (v : Volume) (earlier : List Claim) (rs : List TruncateRec) → clusters_of l.fn.claims ≡ v.geo.clusters → l.records ≡ map run_of rs → AreOwners earlier l.fn.claims
      → l.hold ≡ are_sound_truncations v l.slot earlier (take l.run-index rs);
  owners : (v : Volume) (earlier : List Claim) (rs : List TruncateRec) → clusters_of l.fn.claims ≡ v.geo.clusters → l.records ≡ map run_of rs → AreOwners earlier l.fn.claims
      → AreOwners (fold (with_truncation v l.slot) earlier (take l.run-index rs)) l.claims;
}
