-- Where nothing fails, blocks that agree on the held ones have the same answers of LOCAL_ALLOC and TRUNCATE_LOG.
use Rattle.std.proofs.Common.{◌≡◌, ℕ, Bool, ◌&&◌, List, [], ◌∷◌, refl, ◌∙◌, ap, Option, Some, None}
use Rattle.std.specs.Option.{option_map_or}
use Rattle.o2_ondisk.specs.declared.truncate_rec.TruncateRec.{TruncateRec}
use Rattle.o2_model.specs.declared.check.Check.TheVariants as check
use Rattle.o2_model.specs.declared.claim.Claim.{Claim}
use Rattle.o2_model.specs.declared.system_file.SlotFile.TheVariants.{LocalAlloc, TruncateLog}
use Rattle.o2_model.specs.declared.system_file.SystemFile.TheVariants.{OfSlot}
use Rattle.o2_model.specs.Faults.{fails_unless}
use Rattle.o2_model.specs.Volume.{Volume, over}
use Rattle.o2_model.specs.SystemFiles.{system_inode, slots}
use Rattle.o2_model.specs.Windows.{is_sound_window}
use Rattle.o2_model.specs.TruncateLogs.{is_sound_truncate_header, truncate_records, is_sound_truncation}
use Rattle.o2_model.specs.Claims.{claims_with_windows, claims_with_truncations, with_truncation, claimed_clusters}
use Rattle.o2_model.specs.Checks.LocalAlloc.{local_alloc_faults_of}
use Rattle.o2_model.specs.Checks.TruncateLog.{are_sound_truncations, is_sound_truncate_log, truncate_log_faults_of}
use Rattle.o2_model.specs.Failing.{faults, failing}
use Rattle.o2_laws.proofs.Held.HeldBlocks.{AgreesOnHeld}
use Rattle.o2_laws.proofs.Agreeing.{flat_map_agree}
use Rattle.o2_laws.proofs.SameAllocators.{inode_same}
use Rattle.o2_laws.proofs.Held.HeldTables.{held_tell_system_files}
use Rattle.o2_laws.proofs.Kept.ClaimsKeep.{sound_window_same, truncate_header_same, truncate_records_same, sound_truncation_same, with_truncation_same, held_tell_claims_with_windows, held_tell_claims_with_truncations}

-- ---- what is asked of a slot's file, where there is one
file_same : (v : Volume) (at : ℕ → List ℕ) (p q : ℕ → Bool) (o : Option ℕ) → ((b : ℕ) → o ≡ Some b → at b ≡ v.at b) → ((b : ℕ) → at b ≡ v.at b → p b ≡ q b)
    → option_map_or (λ b. fails_unless b (p b)) o [] ≡ option_map_or (λ b. fails_unless b (q b)) o []
file_same v at p q None same asked = refl
file_same v at p q (Some b) same asked = ap (fails_unless b) (asked b (same b refl))

-- ---- windows
window_faults : (v : Volume) (at : ℕ → List ℕ) (slot : ℕ) → failing v ≡ [] → AgreesOnHeld v at → local_alloc_faults_of (over v at) slot ≡ local_alloc_faults_of v slot
window_faults v at slot none agrees =
    let files = held_tell_system_files v at none agrees in
    let holds = λ (w : Volume) (b : ℕ). is_sound_window w (claimed_clusters (claims_with_windows w slot)) b in
    ap (λ o. option_map_or (λ b. fails_unless b (holds (over v at) b)) o []) (inode_same v at files (OfSlot LocalAlloc slot))
    ∙ file_same v at (holds (over v at)) (holds v) (system_inode v (OfSlot LocalAlloc slot)) (files.dinodes (OfSlot LocalAlloc slot)) (λ b same.
    ap (λ ks. is_sound_window (over v at) (claimed_clusters ks) b) (held_tell_claims_with_windows v at slot none agrees)
    ∙ sound_window_same v at (claimed_clusters (claims_with_windows v slot)) b same)

pub keeps_local_alloc : (v : Volume) (at : ℕ → List ℕ) → failing v ≡ [] → AgreesOnHeld v at → faults (over v at) check.LocalAlloc ≡ faults v check.LocalAlloc
unfolding faults
keeps_local_alloc v at none agrees =
    flat_map_agree (local_alloc_faults_of (over v at)) (local_alloc_faults_of v) (slots v) (λ slot is. window_faults v at slot none agrees)

-- ---- truncate logs
truncations_same : (v : Volume) (at : ℕ → List ℕ) (slot : ℕ) (ks : List Claim) (rs : List TruncateRec) → are_sound_truncations (over v at) slot ks rs ≡ are_sound_truncations v slot ks rs
truncations_same v at slot ks [] = refl
truncations_same v at slot ks (r ∷ rs) =
    ap (λ x. x && are_sound_truncations (over v at) slot (with_truncation (over v at) slot ks r) rs) (sound_truncation_same v at (claimed_clusters ks) r)
    ∙ ap (λ x. is_sound_truncation v (claimed_clusters ks) r && x)
    (ap (λ es. are_sound_truncations (over v at) slot es rs) (with_truncation_same v at slot ks r) ∙ truncations_same v at slot (with_truncation v slot ks r) rs)

log_same : (v : Volume) (at : ℕ → List ℕ) (slot b : ℕ) → failing v ≡ [] → AgreesOnHeld v at → at b ≡ v.at b
    → is_sound_truncate_log (over v at) slot b ≡ is_sound_truncate_log v slot b
unfolding is_sound_truncate_log
log_same v at slot b none agrees same =
    rw (truncate_header_same v at b same, held_tell_claims_with_truncations v at slot none agrees, truncate_records_same v at b same)
    (ap (λ x. is_sound_truncate_header v b && x) (truncations_same v at slot (claims_with_truncations v slot) (truncate_records v b)))

log_faults : (v : Volume) (at : ℕ → List ℕ) (slot : ℕ) → failing v ≡ [] → AgreesOnHeld v at → truncate_log_faults_of (over v at) slot ≡ truncate_log_faults_of v slot
log_faults v at slot none agrees =
    let files = held_tell_system_files v at none agrees in
    ap (λ o. option_map_or (λ b. fails_unless b (is_sound_truncate_log (over v at) slot b)) o []) (inode_same v at files (OfSlot TruncateLog slot))
    ∙ file_same v at (is_sound_truncate_log (over v at) slot) (is_sound_truncate_log v slot) (system_inode v (OfSlot TruncateLog slot)) (files.dinodes (OfSlot TruncateLog slot))
    (λ b same. log_same v at slot b none agrees same)

pub keeps_truncate_log : (v : Volume) (at : ℕ → List ℕ) → failing v ≡ [] → AgreesOnHeld v at → faults (over v at) check.TruncateLog ≡ faults v check.TruncateLog
unfolding faults
keeps_truncate_log v at none agrees =
    flat_map_agree (truncate_log_faults_of (over v at)) (truncate_log_faults_of v) (slots v) (λ slot is. log_faults v at slot none agrees)
