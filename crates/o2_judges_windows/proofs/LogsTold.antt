-- Rows of truncate logs tell where TRUNCATE_LOG fails, and what is claimed.
use Rattle.std.proofs.Common.{◌≡◌, ◌≢◌, ℕ, ◌+◌, ◌-◌, ◌<◌, ◌≤◌, Bool, true, false, ◌&&◌, ◌||◌, not, ◌==◌, nat_lt, List, [], ◌∷◌, ◌++◌, map, fold, take, length, get_or, refl, sym, ◌∙◌, ap, arith}
use Rattle.std.specs.Prelude.{nat_le}
use Rattle.std.specs.List.{range_with_len, list_any}
use Rattle.std.proofs.lemmas.Bool.Decides.{nat_tests}
use Rattle.std.proofs.lemmas.List.{append-nil, length-map, get_or-map, take_more, take_all}
use Rattle.std.proofs.lemmas.List.Sums.{fold-append}
use Rattle.o2_ondisk.specs.declared.truncate_rec.TruncateRec.{TruncateRec}
use Rattle.o2_model.specs.declared.check.Check.TheVariants as check
use Rattle.o2_model.specs.declared.claim.Claim.{Claim}
use Rattle.o2_model.specs.declared.claim.Owner.TheVariants as owner
use Rattle.o2_model.specs.declared.system_file.SlotFile.TheVariants.{TruncateLog}
use Rattle.o2_model.specs.declared.system_file.SystemFile.TheVariants.{OfSlot}
use Rattle.o2_model.specs.Words.{among}
use Rattle.o2_model.specs.Volume.{Volume}
use Rattle.o2_model.specs.SystemFiles.{system_inode}
use Rattle.o2_model.specs.TruncateLogs.{is_sound_truncate_header, is_sound_truncation, truncated_clusters, truncate_records}
use Rattle.o2_model.specs.Checks.TruncateLog.{are_sound_truncations, is_sound_truncate_log}
use Rattle.o2_model.specs.Claims.{claimed_clusters, claims_by, with_truncation, with_truncate_log, claims_with_windows, claims_with_truncations, claims_of}
use Rattle.o2_model.specs.Failing.{faults}
use Rattle.o2_view.specs.declared.run.Run.{Run}
use Rattle.o2_slots.specs.Truncations.{run_of}
use Rattle.o2_claims.specs.Owners.{clusters_of, has_owner, AreOwners}
use Rattle.o2_claims.specs.declared.claims.Claims.{Claims}
use Rattle.o2_windows.specs.SlotRows.{inodes_of_slots}
use Rattle.o2_judges_windows.proofs.Claimed.{owned_is}
use Rattle.o2_judges_windows.proofs.Ranges.{fold_push, all_below}
use Rattle.o2_judges_windows.proofs.SlotWalks.{claims_after, faults_after, claims_walked, faults_walked}

-- ---- one record
module _ (v : Volume) (earlier : List Claim) (r : TruncateRec) where
  -- a void one holds
  pub void_holds : r.start ≡ 0 → is_sound_truncation v (claimed_clusters earlier) r ≡ true
  unfolding is_sound_truncation
  void_holds void = rw void refl

  -- one with clusters beyond the volume does not
  pub beyond_fails : r.start ≢ 0 → v.geo.clusters ≤ r.start → is_sound_truncation v (claimed_clusters earlier) r ≡ false
  unfolding is_sound_truncation
  beyond_fails some past = by r.start v.geo.clusters (nat_lt 0 r.start && nat_le (r.start + r.clusters) v.geo.clusters) (not (list_any (among (claimed_clusters earlier)) (truncated_clusters r))) some past
    where
      by : (start clusters : ℕ) (inside free : Bool) → start ≢ 0 → clusters ≤ start → (start == 0 || (nat_lt start clusters && inside && free)) ≡ false
      by start clusters inside free some past = grind (arith, nat_tests)

  pub too_many_fail : r.start ≢ 0 → v.geo.clusters < r.start + r.clusters → is_sound_truncation v (claimed_clusters earlier) r ≡ false
  unfolding is_sound_truncation
  too_many_fail some past = by r.start r.clusters v.geo.clusters (not (list_any (among (claimed_clusters earlier)) (truncated_clusters r))) some past
    where
      by : (start count clusters : ℕ) (free : Bool) → start ≢ 0 → clusters < start + count → (start == 0 || (nat_lt start clusters && (nat_lt 0 start && nat_le (start + count) clusters) && free)) ≡ false
      by start count clusters free some past = grind (arith, nat_tests)

  -- the owners of its clusters decide about another one
  record_clusters : r.start ≢ 0 → truncated_clusters r ≡ range_with_len r.start r.clusters
  unfolding truncated_clusters
  record_clusters some = rw (no_zero r.start some) refl
    where
      no_zero : (start : ℕ) → start ≢ 0 → (start == 0) ≡ false
      no_zero start some = grind (arith, nat_tests)

  pub free_decides : (claims : Claims) → clusters_of claims ≡ v.geo.clusters → AreOwners earlier claims → r.start ≢ 0 → r.start < v.geo.clusters → r.start + r.clusters ≤ v.geo.clusters
      → not (list_any (has_owner claims) (range_with_len r.start r.clusters)) ≡ is_sound_truncation v (claimed_clusters earlier) r
  unfolding is_sound_truncation
  free_decides claims all are some low end =
      ap not (owned_is earlier claims are (range_with_len r.start r.clusters) (all_below (clusters_of claims) r.start r.clusters (omega (arith, all, end))))
      ∙ (ap (λ cs. not (list_any (among (claimed_clusters earlier)) cs)) (sym (record_clusters some))
      ∙ by r.start r.clusters v.geo.clusters (not (list_any (among (claimed_clusters earlier)) (truncated_clusters r))) some low end)
    where
      by : (start count clusters : ℕ) (free : Bool) → start ≢ 0 → start < clusters → start + count ≤ clusters → free ≡ (start == 0 || (nat_lt start clusters && (nat_lt 0 start && nat_le (start + count) clusters) && free))
      by start count clusters free some low end = grind (arith, nat_tests)

  -- ---- what it claims
  pub void_claims : (slot : ℕ) → r.start ≡ 0 → earlier ≡ with_truncation v slot earlier r
  unfolding is_sound_truncation truncated_clusters
  void_claims slot void = rw void (sym (append-nil earlier))

  pub record_claims : (slot : ℕ) → r.start ≢ 0 → is_sound_truncation v (claimed_clusters earlier) r ≡ true → earlier ++ claims_by (owner.TruncateLog slot) (range_with_len r.start r.clusters) ≡ with_truncation v slot earlier r
  record_claims slot some sound = rw sound (ap (λ cs. earlier ++ claims_by (owner.TruncateLog slot) cs) (sym (record_clusters some)))

-- a run that ends so many clusters behind its start
pub same_run : (run : Run) (r : TruncateRec) → run ≡ run_of r → range_with_len run.start (run.start + run.clusters - run.start) ≡ range_with_len r.start r.clusters
same_run run r is =
    let count : run.start + run.clusters - run.start ≡ run.clusters = omega arith in
    ap (range_with_len run.start) count ∙ ap (λ (k : Run). range_with_len k.start k.clusters) is

-- ---- some records, one more at a time
module _ (v : Volume) (slot : ℕ) where
  pub sound_push : (earlier : List Claim) (rs : List TruncateRec) (r : TruncateRec)
      → are_sound_truncations v slot earlier (rs ++ r ∷ []) ≡ (are_sound_truncations v slot earlier rs && is_sound_truncation v (claimed_clusters (fold (with_truncation v slot) earlier rs)) r)
  sound_push earlier [] r = by (is_sound_truncation v (claimed_clusters earlier) r)
    where
      by : (t : Bool) → (t && true) ≡ t
      by true = refl
      by false = refl
  sound_push earlier (q ∷ rs) r =
      ap (λ t. is_sound_truncation v (claimed_clusters earlier) q && t) (sound_push (with_truncation v slot earlier q) rs r)
      ∙ by (is_sound_truncation v (claimed_clusters earlier) q) (are_sound_truncations v slot (with_truncation v slot earlier q) rs) (is_sound_truncation v (claimed_clusters (fold (with_truncation v slot) (with_truncation v slot earlier q) rs)) r)
    where
      by : (x y z : Bool) → (x && (y && z)) ≡ ((x && y) && z)
      by true y z = refl
      by false y z = refl

-- the first records with the next one
module _ (v : Volume) (slot : ℕ) (earlier : List Claim) (records : List Run) (rs : List TruncateRec) (i : ℕ) (is : records ≡ map run_of rs) (low : i < length records) where
  abbrev pub next_record : TruncateRec
  next_record = get_or rs i (record { start = 0; clusters = 0 })

  within : i < length rs
  within = let count = ap length is ∙ length-map rs run_of in omega (arith, low, count)

  pub record_is : (d : Run) → get_or records i d ≡ run_of next_record
  record_is d = ap (λ xs. get_or xs i d) is ∙ get_or-map run_of rs i (record { start = 0; clusters = 0 }) d within

  pub claims_with_next : fold (with_truncation v slot) earlier (take (i + 1) rs) ≡ with_truncation v slot (fold (with_truncation v slot) earlier (take i rs)) next_record
  claims_with_next = ap (fold (with_truncation v slot) earlier) (take_more rs i (record { start = 0; clusters = 0 }) within) ∙ fold-append (with_truncation v slot) earlier (take i rs) (next_record ∷ [])

  pub hold_with_next : (hold holds : Bool) → hold ≡ are_sound_truncations v slot earlier (take i rs) → holds ≡ is_sound_truncation v (claimed_clusters (fold (with_truncation v slot) earlier (take i rs))) next_record
      → (hold && holds) ≡ are_sound_truncations v slot earlier (take (i + 1) rs)
  hold_with_next hold holds before this =
      ap (λ t. t && holds) before
      ∙ (ap (λ t. are_sound_truncations v slot earlier (take i rs) && t) this
      ∙ sym (ap (are_sound_truncations v slot earlier) (take_more rs i (record { start = 0; clusters = 0 }) within) ∙ sound_push v slot earlier (take i rs) next_record))

pub all_records : (records : List Run) (rs : List TruncateRec) (i : ℕ) → records ≡ map run_of rs → length records ≤ i → take i rs ≡ rs
all_records records rs i is past = take_all i rs (let count = ap length is ∙ length-map rs run_of in omega (arith, past, count))

-- ---- all logs
abbrev pub log_step : Volume → List Claim → ℕ → ℕ → List Claim
log_step v earlier slot b = fold (with_truncation v slot) earlier (truncate_records v b)

abbrev pub holds_log : Volume → List Claim → ℕ → ℕ → Bool
holds_log v earlier slot b = is_sound_truncate_header v b && are_sound_truncations v slot earlier (truncate_records v b)

module _ (v : Volume) where
  pub logs_claimed : claims_after (log_step v) (claims_with_windows v v.geo.slots) (inodes_of_slots v TruncateLog) ≡ claims_of v
  unfolding claims_of claims_with_truncations inodes_of_slots
  logs_claimed = claims_walked (log_step v) (holds_log v) (λ slot. system_inode v (OfSlot TruncateLog slot)) (claims_with_windows v v.geo.slots) (range_with_len 0 v.geo.slots)

  pub logs_failing : faults_after (log_step v) (holds_log v) (claims_with_windows v v.geo.slots) (inodes_of_slots v TruncateLog) ≡ faults v check.TruncateLog
  unfolding faults is_sound_truncate_log claims_with_truncations inodes_of_slots
  logs_failing =
      faults_walked (log_step v) (holds_log v) (λ slot. system_inode v (OfSlot TruncateLog slot)) (claims_with_truncations v)
      (fold_push (with_truncate_log v) (claims_with_windows v v.geo.slots)) 0 v.geo.slots
