-- What a run answers for a volume.
use Rattle.std.specs.Prelude.{◌≡◌, ◌⊎◌, ℕ, ◌^◌, ◌/◌, Bool, not, ◌&&◌, ◌||◌, nat_le, nat_lt, if◌then◌else◌, List, length, Option, Some, None, is_some}
use Rattle.std.specs.Option.{option_map_or, option_or}
use Rattle.o2_ondisk.specs.declared.superblock.Super.{Super}
use Rattle.o2_model.specs.Image.{Image}
use Rattle.o2_model.specs.Superblock.{superblock, superblock_bits, cluster_count}
use Rattle.o2_model.specs.Features.{unsupported_in}
use Rattle.o2_cause.specs.declared.cause.Cause.{Cause}
use Rattle.o2_cause.specs.declared.cause.Cause.TheVariants.{Fine, Later, NotOcfs2, Range, DeviceFault, OutputFault, NoMemory}
use Rattle.o2_view.specs.declared.which.Which.TheVariants.{Label}

-- A volume that is not served yet: it has a feature outside the profile, or clusters of another size than 4 KiB to
-- 1 MiB, or more than 1 GiB, and so may have copies of its superblock.
unfoldable pub is_for_later : Super → ℕ → Bool
is_for_later s clusters =
    is_some (unsupported_in s clusters)
    || not (nat_le 12 s.clustersize_bits && nat_le s.clustersize_bits 20)
    || nat_lt (2 ^ 30 / 2 ^ s.clustersize_bits) clusters

-- why a volume is not served: there is no superblock, or it is for later
abbrev pub volume_refusal : Image → Option Cause
volume_refusal I = option_map_or (λ bits. if is_for_later (superblock I bits) (cluster_count I bits) then Some Later else None) (superblock_bits I) (Some NotOcfs2)

-- why a label is not taken: it is longer than its field
abbrev pub label_refusal : List ℕ → Option Cause
label_refusal label = if nat_lt 64 (length label) then Some (Range Label (length label)) else None

-- the first refusal of a label for this volume, or none
abbrev pub refusal_of : List ℕ → Image → Option Cause
refusal_of label I = option_or (volume_refusal I) (label_refusal label)

-- a refusal that came, where this one stands first; or the device failed, or memory ran out
abbrev pub IsCauseFor : Option Cause → Cause → Type 0
IsCauseFor refusal cause = (refusal ≡ Some cause) ⊎ (cause ≡ DeviceFault) ⊎ (cause ≡ NoMemory)

-- the answer to a request with this first refusal, or none: the refusal, or Fine, which a fault of the output stands in
-- place of; or the device failed, or memory ran out
abbrev pub IsAnswer : Option Cause → Cause → Type 0
IsAnswer None cause = (cause ≡ Fine) ⊎ (cause ≡ OutputFault) ⊎ (cause ≡ DeviceFault) ⊎ (cause ≡ NoMemory)
IsAnswer (Some refusal) cause = (cause ≡ refusal) ⊎ (cause ≡ DeviceFault) ⊎ (cause ≡ NoMemory)
