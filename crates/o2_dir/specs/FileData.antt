-- A file or a link whose bytes are read.
use Rattle.std.specs.Prelude.{◌≡◌, ℕ, true, ◌||◌}
use Rattle.o2_model.specs.Volume.{Volume, is_valid}
use Rattle.o2_model.specs.Inodes.{is_file, is_link}

-- a valid dinode of a file or a link
pub record HasBytes (v : Volume) (b : ℕ) : Type 0 where
  pub valid : is_valid v b ≡ true
  pub kind : (is_file v b || is_link v b) ≡ true
