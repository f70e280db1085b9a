-- Why a device is not opened, and the volumes of one that is.
use Rattle.std.specs.Prelude.{◌≡◌, Some, None}
use Rattle.o2_model.specs.Image.{Image}
use Rattle.o2_model.specs.Superblock.{superblock_bits}
use Rattle.o2_model.specs.Features.{unsupported_feature}
use Rattle.o2_model.specs.Volume.{Volume, opened}
use Rattle.o2_cause.specs.declared.cause.Cause.{Cause}
use Rattle.o2_cause.specs.declared.cause.Cause.TheVariants.{NotOcfs2, Unsupported, DeviceFault, NoMemory}

-- the image has a volume with nothing unsupported in its superblock, and this holds of it
pub record IsServed (I : Image) (P : Volume → Type 0) : Type 0 where
  pub volume : Volume
  pub is : opened I ≡ Some volume
  pub supported : unsupported_feature I ≡ None
  pub holds : P volume

-- why a device is not opened for reading, where it has this content
abbrev pub RefusesVolume : Image → Cause → Type 0
RefusesVolume I NotOcfs2 = superblock_bits I ≡ None
RefusesVolume I (Unsupported what block) = (unsupported_feature I ≡ Some what) × (block ≡ 2)
RefusesVolume I DeviceFault = Unit {0}
RefusesVolume I NoMemory = Unit {0}
RefusesVolume I _ = ⊥

-- the causes for which it is not
abbrev pub IsOfOpening : Cause → Type 0
IsOfOpening NotOcfs2 = Unit {0}
IsOfOpening (Unsupported what block) = Unit {0}
IsOfOpening DeviceFault = Unit {0}
IsOfOpening NoMemory = Unit {0}
IsOfOpening _ = ⊥
