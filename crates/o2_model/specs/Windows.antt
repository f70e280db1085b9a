-- The window of a slot: the clusters that its local alloc has set aside.
use Rattle.std.specs.Prelude.{ℕ, ◌+◌, ◌-◌, ◌*◌, Bool, ◌&&◌, ◌||◌, not, ◌==◌, nat_le, List, map, filter, drop, count_by}
use Rattle.std.specs.List.{range_with_len, list_any}
use Rattle.o2_ondisk.specs.Dinodes.{last_part_place, window_bitmap_place}
use Rattle.o2_ondisk.specs.LocalAllocHeaders.{local_alloc_header_of}
use Rattle.o2_ondisk.specs.declared.local_alloc_header.LocalAllocHeader.{LocalAllocHeader}
use Rattle.o2_model.specs.Words.{among}
use Rattle.o2_model.specs.Volume.{Volume, block_size, dinode}
use Rattle.o2_model.specs.Groups.{is_bit_set_in}
use Rattle.o2_model.specs.Clusters.{are_clusters_of}
use Rattle.o2_model.specs.Allocators.{used_of, total_of}

-- the header of the window (id2.i_lab of struct ocfs2_dinode)
abbrev pub window : Volume → ℕ → LocalAllocHeader
window v b = local_alloc_header_of (drop last_part_place (v.at b))

-- how many clusters the window has, and how many of them are in use
abbrev pub window_total : Volume → ℕ → ℕ
window_total v b = total_of (dinode v b).role_data

abbrev pub window_used : Volume → ℕ → ℕ
window_used v b = used_of (dinode v b).role_data

-- bit k of the window (la_bitmap)
abbrev pub is_window_bit_set : Volume → ℕ → ℕ → Bool
is_window_bit_set v b k = is_bit_set_in window_bitmap_place (v.at b) k

-- the clusters of its clear bits
unfoldable pub window_clusters : Volume → ℕ → List ℕ
window_clusters v b = map (λ k. (window v b).bm_off + k) (filter (λ k. not (is_window_bit_set v b k)) (range_with_len 0 (window_total v b)))

-- the bitmap fits the dinode (ocfs2_local_alloc_size)
abbrev pub is_sound_window_size : Volume → ℕ → Bool
is_sound_window_size v b = nat_le (window v b).size (block_size v - window_bitmap_place)

-- The window holds, where these clusters have an earlier claim: its bitmap fits, and where it has clusters they are the
-- volume's, i_used is the number of its set bits, and no cluster of a clear bit is claimed.
unfoldable pub is_sound_window : Volume → List ℕ → ℕ → Bool
is_sound_window v claimed b =
    is_sound_window_size v b
    && (window_total v b == 0
    || (nat_le (window_total v b) (8 * (window v b).size)
    && are_clusters_of v (window v b).bm_off (window_total v b)
    && window_used v b == count_by (is_window_bit_set v b) (range_with_len 0 (window_total v b))
    && not (list_any (among claimed) (window_clusters v b))))
