-- What a window that was read says by itself.
use Rattle.std.specs.Prelude.{ℕ, ◌+◌, Bool, ◌&&◌, ◌||◌, not, ◌==◌, nat_lt, nat_le, List, map, filter, count_by}
use Rattle.std.specs.List.{range_with_len}
use Rattle.o2_model.specs.declared.geo.Geo.{Geo}
use Rattle.o2_model.specs.Groups.{is_bit_set_in}
use Rattle.o2_slots.specs.declared.window.Window.{Window}

-- the clusters of its clear bits
abbrev pub clear_clusters : Window → List ℕ
clear_clusters w = map (λ k. w.start + k) (filter (λ k. not (is_bit_set_in 0 w.bits k)) (range_with_len 0 w.total))

-- so many of its bits are set
abbrev pub has_set_bits : Window → ℕ → Bool
has_set_bits w used = used == count_by (is_bit_set_in 0 w.bits) (range_with_len 0 w.total)

-- it lies within a volume of these numbers and behind its cluster 0
abbrev pub lies_in_volume : Geo → Window → Bool
lies_in_volume geo w = nat_lt 0 w.start && nat_le (w.start + w.total) geo.clusters

-- it has no clusters, or those of the volume, so many of which are in use
abbrev pub holds_alone : Geo → Window → ℕ → Bool
holds_alone geo w used = w.total == 0 || (lies_in_volume geo w && has_set_bits w used)
