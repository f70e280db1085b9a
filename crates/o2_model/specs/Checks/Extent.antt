-- EXTENT, number 14, at the dinode or the extent block that has the list: a list's count fits its room, its records in use fit
-- its count, its tree is at most 5 deep; inner records rise and name extent blocks in range, each once in its tree, with the
-- right signature, number, generation and depth one less; leaf records rise without overlap, end below 2^32, have whole clusters
-- in range, and no flags but UNWRITTEN and REFCOUNTED, in a directory no flag but UNWRITTEN.
use Rattle.std.specs.Prelude.{ℕ, List, flat_map}
use Rattle.o2_model.specs.Volume.{Volume}
use Rattle.o2_model.specs.Inodes.{extent_lists_of}

-- those of one inode's lists
abbrev pub extent_faults : Volume → ℕ → List ℕ
extent_faults v b = flat_map (λ t. t.faults) (extent_lists_of v b)
