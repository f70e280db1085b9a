-- DIR_BLOCK, number 20, at the directory's block: entries fill it, and in the directory's first block the first two are live, and
-- named `.` and `..`.
use Rattle.std.specs.Prelude.{ℕ, Bool, false, ◌&&◌, ◌||◌, not, ◌==◌, List, ◌∷◌, codes, bytes_eq}
use Rattle.std.specs.Option.{option_map_or}
use Rattle.o2_model.specs.Faults.{fails_at}
use Rattle.o2_model.specs.Volume.{Volume}
use Rattle.o2_model.specs.Directories.{NamedEntry, is_live, DirBlock, dir_blocks}

-- the first two entries are live, and named `.` and `..`
abbrev pub begin_with_dots : List NamedEntry → Bool
begin_with_dots (a ∷ b ∷ rest) = is_live a && bytes_eq a.name (codes ".") && is_live b && bytes_eq b.name (codes "..")
begin_with_dots _ = false

-- Entries fill the block, and in the directory's first block they begin with the dots.
unfoldable pub is_sound_dir_block : DirBlock → Bool
is_sound_dir_block b = option_map_or (λ es. not (b.place == 0) || begin_with_dots es) b.found false

-- those of one directory
abbrev pub dir_block_faults : Volume → ℕ → List ℕ
dir_block_faults v d = fails_at (λ b. b.block) is_sound_dir_block (dir_blocks v d)
