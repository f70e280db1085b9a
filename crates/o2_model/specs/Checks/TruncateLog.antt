-- TRUNCATE_LOG, number 39, at the dinode of the truncate log: the counts fit the dinode; each record is void, or its clusters are
-- in range, and no earlier claim or record has one of them.
use Rattle.std.specs.Prelude.{ℕ, Bool, true, ◌&&◌, List, [], ◌∷◌, flat_map}
use Rattle.std.specs.Option.{option_map_or}
use Rattle.o2_ondisk.specs.declared.truncate_rec.TruncateRec.{TruncateRec}
use Rattle.o2_model.specs.declared.claim.Claim.{Claim}
use Rattle.o2_model.specs.declared.system_file.SlotFile.TheVariants.{TruncateLog}
use Rattle.o2_model.specs.declared.system_file.SystemFile.TheVariants.{OfSlot}
use Rattle.o2_model.specs.Faults.{fails_unless}
use Rattle.o2_model.specs.Volume.{Volume}
use Rattle.o2_model.specs.SystemFiles.{system_inode, slots}
use Rattle.o2_model.specs.TruncateLogs.{is_sound_truncate_header, truncate_records, is_sound_truncation}
use Rattle.o2_model.specs.Claims.{claims_with_truncations, with_truncation, claimed_clusters}

-- each record holds behind these claims and the records before it
abbrev pub are_sound_truncations : Volume → ℕ → List Claim → List TruncateRec → Bool
are_sound_truncations v slot earlier [] = true
are_sound_truncations v slot earlier (r ∷ rs) =
    is_sound_truncation v (claimed_clusters earlier) r && are_sound_truncations v slot (with_truncation v slot earlier r) rs

unfoldable pub is_sound_truncate_log : Volume → ℕ → ℕ → Bool
is_sound_truncate_log v slot b =
    is_sound_truncate_header v b && are_sound_truncations v slot (claims_with_truncations v slot) (truncate_records v b)

-- that of one slot
abbrev pub truncate_log_faults_of : Volume → ℕ → List ℕ
truncate_log_faults_of v slot =
    option_map_or (λ b. fails_unless b (is_sound_truncate_log v slot b)) (system_inode v (OfSlot TruncateLog slot)) []

abbrev pub truncate_log_faults : Volume → List ℕ
truncate_log_faults v = flat_map (truncate_log_faults_of v) (slots v)
