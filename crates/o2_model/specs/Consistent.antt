-- Images on which nothing fails.
use Rattle.std.specs.Prelude.{◌≡◌, ℕ, List, [], Some, None}
use Rattle.std.specs.Option.{option_map_or}
use Rattle.o2_disk.specs.Image.{Image}
use Rattle.o2_model.specs.declared.check.Check.{Check}
use Rattle.o2_model.specs.Features.{unsupported_feature}
use Rattle.o2_model.specs.Volume.{Volume, opened}
use Rattle.o2_model.specs.Structures.{unsupported_structure}
use Rattle.o2_model.specs.Failing.{failing, pairs, skeleton}

-- the checks that fail on the volume in the image; none where there is no volume
abbrev pub failing_checks : Image → List (Check × ℕ)
failing_checks I = option_map_or failing (opened I) []

-- There is a volume, nothing on it is outside the profile, and no check fails.
pub record IsConsistent (I : Image) : Type 0 where
  pub volume : Volume
  pub is_opened : opened I ≡ Some volume
  pub supported_features : unsupported_feature I ≡ None
  pub supported_structures : unsupported_structure volume ≡ None
  pub none_fails : failing volume ≡ []

-- There is a volume, and no check of the skeleton fails.
pub record HasSoundSkeleton (I : Image) : Type 0 where
  pub volume : Volume
  pub is_opened : opened I ≡ Some volume
  pub none_fails : pairs volume skeleton ≡ []
