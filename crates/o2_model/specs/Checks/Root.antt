-- ROOT, number 4, at the root: it is a valid dinode of a directory.
use Rattle.std.specs.Prelude.{ℕ, Bool, ◌&&◌, List}
use Rattle.o2_model.specs.Faults.{fails_unless}
use Rattle.o2_model.specs.Volume.{Volume, is_valid}
use Rattle.o2_model.specs.Inodes.{is_directory}

unfoldable pub is_sound_root : Volume → Bool
is_sound_root v = is_valid v v.geo.root && is_directory v v.geo.root

abbrev pub root_faults : Volume → List ℕ
root_faults v = fails_unless v.geo.root (is_sound_root v)
