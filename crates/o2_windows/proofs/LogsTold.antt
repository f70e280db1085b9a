-- A log with an unsound header has no records.
use Rattle.std.proofs.Common.{◌≡◌, ℕ, false, [], refl}
use Rattle.o2_model.specs.Volume.{Volume}
use Rattle.o2_model.specs.TruncateLogs.{is_sound_truncate_header, truncate_records}
use Rattle.o2_slots.specs.Truncations.{truncated_runs}

pub no_records : (v : Volume) (b : ℕ) → is_sound_truncate_header v b ≡ false → [] ≡ truncated_runs v b
unfolding truncate_records
no_records v b unsound = rw unsound refl
