-- The headers of a window and of a truncate log decide what is read.
use Rattle.std.proofs.Common.{◌≡◌, ℕ, ◌-◌, ◌*◌, ◌/◌, ◌^◌, true, ◌&&◌, ◌||◌, ◌==◌, List, drop, map, refl}
use Rattle.std.specs.Prelude.{nat_le}
use Rattle.o2_ondisk.specs.Dinodes.{last_part_place, window_bitmap_place, truncate_records_place}
use Rattle.o2_ondisk.specs.LocalAllocHeaders.{local_alloc_header_of}
use Rattle.o2_ondisk.specs.TruncateLogHeaders.{truncate_log_header_of}
use Rattle.o2_ondisk.specs.TruncateRecs.{truncate_rec_of}
use Rattle.o2_ondisk.specs.declared.local_alloc_header.LocalAllocHeader.{LocalAllocHeader}
use Rattle.o2_ondisk.specs.declared.truncate_log_header.TruncateLogHeader.{TruncateLogHeader}
use Rattle.o2_model.specs.declared.geo.Geo.{Geo}
use Rattle.o2_model.specs.Words.{table}
use Rattle.o2_model.specs.Volume.{Volume}
use Rattle.o2_model.specs.TruncateLogs.{is_sound_truncate_header, truncate_records}
use Rattle.o2_model.specs.Windows.{window_total}
use Rattle.o2_slots.specs.Truncations.{run_of, truncated_runs}
use Rattle.o2_slots.specs.Windows.{is_sound_window_head}

-- ---- truncate logs
pub log_fits : (v : Volume) (geo : Geo) (b : ℕ) (bytes : List ℕ) (h : TruncateLogHeader) → v.geo ≡ geo → bytes ≡ v.at b → h ≡ truncate_log_header_of (drop last_part_place bytes)
    → is_sound_truncate_header v b ≡ (nat_le h.used h.count && nat_le h.count ((2 ^ geo.block_bits - truncate_records_place) / 8))
unfolding is_sound_truncate_header
log_fits v geo b bytes h same are is = rw (is, are, ← same) refl

pub log_runs : (v : Volume) (b : ℕ) (bytes : List ℕ) (h : TruncateLogHeader) → bytes ≡ v.at b → h ≡ truncate_log_header_of (drop last_part_place bytes) → is_sound_truncate_header v b ≡ true
    → map run_of (table truncate_rec_of 8 truncate_records_place h.used bytes) ≡ truncated_runs v b
unfolding truncate_records
log_runs v b bytes h are is sound = rw (sound, is, are) refl

-- ---- windows
pub window_fits : (v : Volume) (geo : Geo) (b : ℕ) (bytes : List ℕ) (h : LocalAllocHeader) (total : ℕ) → v.geo ≡ geo → bytes ≡ v.at b → h ≡ local_alloc_header_of (drop last_part_place bytes) → total ≡ window_total v b
    → is_sound_window_head v b ≡ (nat_le h.size (2 ^ geo.block_bits - window_bitmap_place) && (total == 0 || nat_le total (8 * h.size)))
unfolding is_sound_window_head
window_fits v geo b bytes h total same are is many = rw (is, are, many, ← same) refl
