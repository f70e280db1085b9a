-- INODE_KIND, number 13, at the inode: i_mode has one of the seven kinds.
use Rattle.std.specs.Prelude.{ℕ, Bool, true, false, List}
use Rattle.std.specs.Option.{option_map_or}
use Rattle.o2_model.specs.Faults.{fails_unless}
use Rattle.o2_model.specs.Volume.{Volume}
use Rattle.o2_model.specs.Inodes.{kind}

-- the mode says what the inode is
abbrev pub has_kind : Volume → ℕ → Bool
has_kind v b = option_map_or (λ k. true) (kind v b) false

-- that of one inode
abbrev pub inode_kind_faults : Volume → ℕ → List ℕ
inode_kind_faults v b = fails_unless b (has_kind v b)
