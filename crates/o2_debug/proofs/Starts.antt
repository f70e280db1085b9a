-- A sound skeleton has where paths begin.
use Rattle.std.proofs.Common.{◌≡◌, ℕ, Bool, true, false, ◌&&◌, refl}
use Rattle.o2_model.specs.Volume.{Volume, is_valid}
use Rattle.o2_model.specs.Checks.Sysdir.{is_sound_directory}
use Rattle.o2_model.specs.Checks.Root.{is_sound_root}
use Rattle.o2_model.proofs.Faults.{holds_unless}
use Rattle.o2_skeleton.specs.Skeleton.{HasSkeleton}

first_of : (x y : Bool) → (x && y) ≡ true → x ≡ true
first_of true y both = refl
first_of false y both = both

root_is_valid : (v : Volume) → is_sound_root v ≡ true → is_valid v v.geo.root ≡ true
unfolding is_sound_root
root_is_valid v sound = first_of _ _ sound

directory_is_valid : (v : Volume) (d : ℕ) → is_sound_directory v d ≡ true → is_valid v d ≡ true
unfolding is_sound_directory
directory_is_valid v d sound = first_of (is_valid v d) _ (first_of _ _ sound)

pub valid_root : (v : Volume) → HasSkeleton v → is_valid v v.geo.root ≡ true
valid_root v h = root_is_valid v (holds_unless v.geo.root (is_sound_root v) h.1.1.1.0)

pub valid_sysdir : (v : Volume) → HasSkeleton v → is_valid v v.geo.sysdir ≡ true
valid_sysdir v h = directory_is_valid v v.geo.sysdir (holds_unless v.geo.sysdir (is_sound_directory v v.geo.sysdir) h.1.0)
