-- The images that a torn replay leaves.
use Rattle.std.specs.Prelude.{◌≡◌, ◌⊎◌, ℕ, ◌+◌, ◌-◌, ◌<◌, Bool, true, ◌&&◌, nat_lt, nat_le, List, [], ◌∷◌, flat_map, length, bytes_eq, Some}
use Rattle.std.specs.List.{list_any}
use Rattle.std.specs.Option.{option_map_or}
use Rattle.o2_disk.specs.Image.{Image, sector, piece, sectors_in, block_at}
use Rattle.o2_model.specs.Words.{among}
use Rattle.o2_model.specs.Volume.{Volume, block_size, opened}
use Rattle.o2_model.specs.Logs.{LoggedBlock}
use Rattle.o2_model.specs.Dirty.{slot_journal, dirty_slots, all_committed_writes}
use Rattle.o2_model.specs.Replay.{first_sector}

-- the write puts these bytes into sector s
abbrev pub puts_sector : ℕ → ℕ → List ℕ → LoggedBlock → Bool
puts_sector size s bytes w =
    nat_le (first_sector size w.block) s
    && nat_lt s (first_sector size w.block + sectors_in w.bytes)
    && bytes_eq bytes (piece w.bytes (s - first_sector size w.block))

-- a committed write of a dirty slot does so
abbrev pub may_put : Volume → ℕ → List ℕ → Bool
may_put v s bytes = list_any (puts_sector (block_size v) s bytes) (all_committed_writes v)

-- the dinodes of the dirty slots' journals
abbrev pub dirty_journals : Volume → List ℕ
dirty_journals v = flat_map (λ slot. option_map_or (λ b. b ∷ []) (slot_journal v slot) []) (dirty_slots v)

-- Each sector of V is that of I, or one that a committed write puts there, and the dirty journals' dinodes are those of I.
pub record IsTornReplay (I : Image) (v : Volume) (V : Image) : Type 0 where
  pub size : length V ≡ length I
  pub each : (s : ℕ) → s < length I → (sector V s ≡ sector I s) ⊎ (may_put v s (sector V s) ≡ true)
  pub own : (b : ℕ) → among (dirty_journals v) b ≡ true → block_at (block_size v) V b ≡ block_at (block_size v) I b

-- V is such an image of the volume in I.
pub record IsPartialReplay (I V : Image) : Type 0 where
  pub volume : Volume
  pub is_opened : opened I ≡ Some volume
  pub torn : IsTornReplay I volume V
