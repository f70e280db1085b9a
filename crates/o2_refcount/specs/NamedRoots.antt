-- The roots that inodes name.
use Rattle.std.specs.Prelude.{ℕ, List, [], ◌∷◌}
use Rattle.std.specs.Option.{option_map_or}
use Rattle.o2_tables.specs.declared.inodes.InodeRow.{InodeRow}

-- the root that the inode names, or nothing
abbrev pub named_by : InodeRow → List ℕ
named_by row = option_map_or (λ root. root ∷ []) row.named_tree []
