-- The window of a slot as a reader tells it.
use Rattle.std.specs.Prelude.{◌≡◌, ℕ, ◌*◌, Bool, ◌&&◌, ◌||◌, ◌==◌, nat_le, List}
use Rattle.o2_ondisk.specs.Dinodes.{window_bitmap_place}
use Rattle.o2_ondisk.specs.Fields.{bytes_at}
use Rattle.o2_model.specs.Volume.{Volume}
use Rattle.o2_model.specs.Windows.{window, window_total, is_sound_window_size}
use Rattle.o2_slots.specs.declared.window.Window.{Window}

-- the bitmap fits the dinode, and a window that has clusters fits the bitmap
unfoldable pub is_sound_window_head : Volume → ℕ → Bool
is_sound_window_head v b = is_sound_window_size v b && (window_total v b == 0 || nat_le (window_total v b) (8 * (window v b).size))

-- the bytes of its bitmap (la_bitmap, of la_size bytes)
abbrev pub window_bits : Volume → ℕ → List ℕ
window_bits v b = bytes_at window_bitmap_place (window v b).size (v.at b)

-- It is the window of the local alloc whose dinode is in block b.
pub record IsWindow (v : Volume) (b : ℕ) (w : Window) : Type 0 where
  pub start : w.start ≡ (window v b).bm_off
  pub total : w.total ≡ window_total v b
  pub bits : w.bits ≡ window_bits v b
