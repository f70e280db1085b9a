-- A window that was read tells what the definitions ask of it.
use Rattle.std.proofs.Common.{◌≡◌, inl, inr, ℕ, ◌+◌, ◌*◌, ◌/◌, ◌%◌, ◌^◌, ◌<◌, Bool, true, false, ◌&&◌, ◌||◌, not, ◌==◌, nat_lt, List, [], ◌∷◌, map, filter, count_by, length, drop, refl, ◌∙◌, ap, arith, eq-eqb}
use Rattle.std.specs.Prelude.{nat_le}
use Rattle.std.specs.List.{range_with_len, list_any}
use Rattle.std.proofs.lemmas.Bool.{cases_Bool, eqb-true}
use Rattle.std.proofs.lemmas.Bool.Decides.{nat_tests}
use Rattle.std.proofs.lemmas.List.{get_or-take, get_or-drop}
use Rattle.o2_ondisk.specs.Dinodes.{window_bitmap_place}
use Rattle.o2_ondisk.specs.Fields.{bytes_at}
use Rattle.o2_model.specs.declared.geo.Geo.{Geo}
use Rattle.o2_model.specs.Words.{among}
use Rattle.o2_model.specs.Groups.{is_bit_set_in}
use Rattle.o2_model.specs.Volume.{Volume}
use Rattle.o2_model.specs.Windows.{window, window_total, window_used, window_clusters, is_window_bit_set, is_sound_window, is_sound_window_size}
use Rattle.o2_slots.specs.Windows.{IsWindow, is_sound_window_head}
use Rattle.o2_slots.specs.declared.window.Window.{Window}
use Rattle.o2_windows.specs.WindowBits.{clear_clusters, has_set_bits, holds_alone}
use Rattle.o2_windows.proofs.Ranges.{same_kept, same_count, others_and_passed}

-- a bit of some of the bytes
bit_of_part : (bytes : List ℕ) (at size k : ℕ) → k / 8 < size → is_bit_set_in 0 (bytes_at at size bytes) k ≡ is_bit_set_in at bytes k
bit_of_part bytes at size k low =
    let start : 0 + k / 8 ≡ k / 8 = omega arith in
    rw start (ap (λ n. n / 2 ^ (k % 8) % 2 == 1) (get_or-take size (drop at bytes) (k / 8) 0 low ∙ get_or-drop at bytes (k / 8) 0))

none_claimed : (ns : List ℕ) → list_any (among []) ns ≡ false
none_claimed [] = refl
none_claimed (n ∷ ns) = none_claimed ns

-- the same by bits that were handed on
pub by_bits : (w : Window) (bits : List ℕ) (total : ℕ) → bits ≡ w.bits → total ≡ w.total → map (λ k. w.start + k) (filter (λ k. not (is_bit_set_in 0 bits k)) (range_with_len 0 total)) ≡ clear_clusters w
by_bits w bits total same all = rw (same, all) refl

-- ---- how many bits are set
pub as_many_set : (w : Window) (used : ℕ) → length (clear_clusters w) + used ≡ w.total → has_set_bits w used ≡ true
as_many_set w used all =
    let count = others_and_passed (is_bit_set_in 0 w.bits) (λ k. w.start + k) w.total in
    eq-eqb used (count_by (is_bit_set_in 0 w.bits) (range_with_len 0 w.total)) (omega (arith, all, count))

pub not_as_many_set : (w : Window) (used : ℕ) → (length (clear_clusters w) + used ≡ w.total → ⊥) → has_set_bits w used ≡ false
not_as_many_set w used other = elim (cases_Bool (has_set_bits w used)) [
  | inl same ↦
      let count = others_and_passed (is_bit_set_in 0 w.bits) (λ k. w.start + k) w.total in
      let set : used ≡ count_by (is_bit_set_in 0 w.bits) (range_with_len 0 w.total) = eqb-true used (count_by (is_bit_set_in 0 w.bits) (range_with_len 0 w.total)) same in
      absurd (other (omega (arith, count, set)))
  | inr differs ↦ differs
]

-- ---- the size
-- a window whose sizes do not fit does not hold
pub unsound_head : (v : Volume) (b : ℕ) → is_sound_window_head v b ≡ false → is_sound_window v [] b ≡ false
unfolding is_sound_window is_sound_window_head
unsound_head v b head =
    by (is_sound_window_size v b) (window_total v b == 0) (nat_le (window_total v b) (8 * (window v b).size))
    (nat_lt 0 (window v b).bm_off && nat_le ((window v b).bm_off + window_total v b) v.geo.clusters)
    (window_used v b == count_by (is_window_bit_set v b) (range_with_len 0 (window_total v b))) (not (list_any (among []) (window_clusters v b))) head
  where
    by : (size empty room clusters count free : Bool) → (size && (empty || room)) ≡ false → (size && (empty || (room && clusters && count && free))) ≡ false
    by true true room clusters count free h = cc
    by true false true clusters count free h = cc
    by true false false clusters count free h = refl
    by false empty room clusters count free h = refl

module _ (v : Volume) (b : ℕ) where
  fits : is_sound_window_head v b ≡ true → (k : ℕ) → k < window_total v b → k / 8 < (window v b).size
  unfolding is_sound_window_head
  fits head k low = few (is_sound_window_size v b) (window_total v b) (window v b).size head k low
    where
      few : (fits : Bool) (total size : ℕ) → (fits && (total == 0 || nat_le total (8 * size))) ≡ true → (k : ℕ) → k < total → k / 8 < size
      few fits total size h k low = grind (arith, nat_tests)

module _ (v : Volume) (geo : Geo) (b : ℕ) (w : Window) (is : IsWindow v b w) (head : is_sound_window_head v b ≡ true) where
  same_bit : (k : ℕ) → k < 0 + w.total → is_bit_set_in 0 w.bits k ≡ is_window_bit_set v b k
  same_bit k low =
      ap (λ bytes. is_bit_set_in 0 bytes k) is.bits
      ∙ bit_of_part (v.at b) window_bitmap_place (window v b).size k (fits v b head k (let total = is.total in omega (arith, total, low)))

  pub clusters_told : clear_clusters w ≡ window_clusters v b
  unfolding window_clusters
  clusters_told =
      ap (map (λ k. w.start + k)) (same_kept (λ k. not (is_bit_set_in 0 w.bits k)) (λ k. not (is_window_bit_set v b k)) 0 w.total (λ k low. ap not (same_bit k low)))
      ∙ (ap (λ first. map (λ k. first + k) (filter (λ k. not (is_window_bit_set v b k)) (range_with_len 0 w.total))) is.start
      ∙ ap (λ total. map (λ k. (window v b).bm_off + k) (filter (λ k. not (is_window_bit_set v b k)) (range_with_len 0 total))) is.total)

  set_bits : count_by (is_bit_set_in 0 w.bits) (range_with_len 0 w.total) ≡ count_by (is_window_bit_set v b) (range_with_len 0 (window_total v b))
  set_bits =
      same_count (is_bit_set_in 0 w.bits) (is_window_bit_set v b) 0 w.total same_bit
      ∙ ap (λ total. count_by (is_window_bit_set v b) (range_with_len 0 total)) is.total

  by : (size empty room clusters count : Bool) → (size && (empty || room)) ≡ true → (empty || (clusters && count)) ≡ (size && (empty || (room && clusters && count && true)))
  by true true room clusters count h = refl
  by true false true true true h = refl
  by true false true true false h = refl
  by true false true false count h = refl
  by true false false clusters count h = cc
  by false empty room clusters count h = cc

  pub held_told : (used : ℕ) → v.geo ≡ geo → used ≡ window_used v b → holds_alone geo w used ≡ is_sound_window v [] b
  unfolding is_sound_window is_sound_window_head
  held_told used numbers uses =
      rw (set_bits, is.total, is.start, ← numbers, uses, none_claimed (window_clusters v b))
      (by (is_sound_window_size v b) (window_total v b == 0) (nat_le (window_total v b) (8 * (window v b).size))
      (nat_lt 0 (window v b).bm_off && nat_le ((window v b).bm_off + window_total v b) v.geo.clusters)
      (window_used v b == count_by (is_window_bit_set v b) (range_with_len 0 (window_total v b))) head)
