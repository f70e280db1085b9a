-- A small volume with the dinode of a slot's file in block 40.
use Rattle.std.specs.Prelude.{ℕ, ◌==◌, List, [], if◌then◌else◌}
use Rattle.o2_ondisk.specs.Fields.{put_at}
use Rattle.o2_model.specs.Volume.{Volume}
use Rattle.o2_cases_volumes.specs.SmallBytes.{zero_bytes}
use Rattle.o2_cases_volumes.specs.SmallVolumes.{small_at}

-- nothing in the other blocks
abbrev pub in_dinode : List ℕ → Volume
in_dinode bytes = small_at (λ b. if b == 40 then bytes else [])

-- a truncate log with room for so many records (tl_count), of which so many are used (tl_used)
abbrev pub with_truncate_log : ℕ → ℕ → Volume
with_truncate_log count used = in_dinode (put_at 0xc0 2 count (put_at 0xc2 2 used (zero_bytes 512)))

-- a window with a bitmap of `size` bytes (la_size) whose bit 1 is set, of so many clusters from cluster 20 on (i_total,
-- la_bm_off), of which so many are told as used (i_used)
abbrev pub with_window : ℕ → ℕ → ℕ → Volume
with_window size total used =
    in_dinode (put_at 0xb8 4 used (put_at 0xbc 4 total (put_at 0xc0 4 20 (put_at 0xc4 2 size (put_at 0xd0 1 2 (zero_bytes 512))))))
