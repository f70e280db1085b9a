-- GROUP_MISSING, number 10, at the place of the group: the walk reaches each group of the global bitmap.
use Rattle.std.specs.Prelude.{ℕ, Bool, List, map, filter}
use Rattle.std.specs.List.{range_with_len}
use Rattle.o2_model.specs.Words.{among}
use Rattle.o2_model.specs.Faults.{those_not}
use Rattle.o2_model.specs.Volume.{Volume}
use Rattle.o2_model.specs.ClusterGroups.{group_count, group_place}
use Rattle.o2_model.specs.Groups.{groups, is_of_clusters}

-- where the groups of the global bitmap are to stand
abbrev pub bitmap_places : Volume → List ℕ
bitmap_places v = map (group_place v) (range_with_len 0 (group_count v))

-- the walk reaches a group of the global bitmap there
abbrev pub is_reached : Volume → ℕ → Bool
is_reached v b = among (map (λ g. g.block) (filter is_of_clusters (groups v))) b

abbrev pub group_missing_faults : Volume → List ℕ
group_missing_faults v = those_not (is_reached v) (bitmap_places v)
