-- Groups of blocks that have no block together.
use Rattle.std.specs.Prelude.{◌≡◌, ℕ, ◌+◌, Bool, true, false, ◌&&◌, not, nat_lt, nat_le, List, [], ◌∷◌}
use Rattle.std.specs.List.{list_any}
use Rattle.o2_model.specs.declared.allocator.Group.{Group}
use Rattle.o2_model.specs.Groups.{is_of_clusters}

-- the block stands for a bit of the group, where that is one of blocks
abbrev pub holds_block : ℕ → Group → Bool
holds_block b g = not (is_of_clusters g) && nat_le g.block b && nat_lt b (g.block + g.bits)

-- No block stands for bits of two of these groups.
abbrev pub AreApart : List Group → Type 0
AreApart [] = Unit {0}
AreApart (g ∷ gs) = ((b : ℕ) → holds_block b g ≡ true → list_any (holds_block b) gs ≡ false) × AreApart gs
