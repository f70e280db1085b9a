-- What a check answers for an image, and when.
use Rattle.std.specs.Prelude.{◌≡◌, ◌⊎◌, ℕ, List, ◌∷◌, None}
use Rattle.o2_disk.specs.Output.{SinkState}
use Rattle.o2_disk.specs.Device.{Rose}
use Rattle.o2_model.specs.Image.{Image}
use Rattle.o2_model.specs.Superblock.{superblock_bits}
use Rattle.o2_model.specs.Volume.{Volume}
use Rattle.o2_model.specs.Failing.{failing}
use Rattle.o2_model.specs.Consistent.{IsConsistent}
use Rattle.o2_model.specs.Structures.{unsupported_structure}
use Rattle.o2_model.specs.declared.check.Check.{Check}
use Rattle.o2_skeleton.specs.Skeleton.{HasSkeleton}
use Rattle.o2_check.specs.Faults.{IsUnsupported}
use Rattle.o2_cause.specs.Taken.{Takes, TakesSome}
use Rattle.o2_cause.specs.declared.cause.Cause.{Cause}
use Rattle.o2_cause.specs.declared.cause.Cause.TheVariants.{Fine, Uncorrected, NotOcfs2, Unsupported, DeviceFault, OutputFault, NoMemory}
use Rattle.o2_open.specs.Openings.{IsServed, RefusesVolume}
use Rattle.o2_fsck.specs.Reports.{report_text}

-- where the skeleton holds, nothing on the volume is outside the profile
abbrev pub IsSupported : Volume → Type 0
IsSupported v = HasSkeleton v → unsupported_structure v ≡ None

-- this check fails at this block, and none before it in the table does, nor at a lesser block
abbrev pub ComesFirst : Volume → Check → ℕ → Type 0
ComesFirst v check b = (rest : List (Check × ℕ)) × (failing v ≡ (check, b) ∷ rest)

-- When each cause answers a check, where the device has this content. A fault and want of memory come where they happen.
abbrev pub ComesFor : Image → Cause → Type 0
ComesFor I Fine = IsConsistent I
ComesFor I OutputFault = IsConsistent I
ComesFor I (Uncorrected check b) = IsServed I (λ v. IsSupported v × ComesFirst v check b)
ComesFor I NotOcfs2 = superblock_bits I ≡ None
ComesFor I (Unsupported what b) = RefusesVolume I (Unsupported what b) ⊎ IsServed I (λ v. IsUnsupported v what b)
ComesFor I DeviceFault = Unit {0}
ComesFor I NoMemory = Unit {0}
ComesFor I _ = ⊥

-- ---- the report
-- these are the pairs that fail on the volume in the image
abbrev pub AreFailing : Image → List (Check × ℕ) → Type 0
AreFailing I pairs = IsServed I (λ v. IsSupported v × (pairs ≡ failing v))

-- the sink took first bytes of this text, and all of it where it did not fail
pub record Puts (old new : SinkState) (text : List ℕ) : Type 0 where
  pub some : TakesSome old new text
  pub whole : (Rose old.faults new.faults → ⊥) → Takes old new text

-- it took the report
abbrev pub PutsReport : Image → SinkState → SinkState → Type 0
PutsReport I old new = (pairs : List (Check × ℕ)) × (AreFailing I pairs × Puts old new (report_text pairs))

-- or first bytes of it, maybe none or all
abbrev pub BeginsReport : Image → SinkState → SinkState → Type 0
BeginsReport I old new = (new ≡ old) ⊎ ((pairs : List (Check × ℕ)) × (AreFailing I pairs × TakesSome old new (report_text pairs)))
