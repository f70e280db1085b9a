-- Images on which a replay may be stopped and started again, and those that it mends.
use Rattle.std.specs.Prelude.{◌≡◌, ℕ, nat_eq, true, [], Some, None}
use Rattle.std.specs.List.{IsDistinct}
use Rattle.o2_disk.specs.Image.{Image}
use Rattle.o2_model.specs.Words.{among}
use Rattle.o2_model.specs.Features.{unsupported_feature}
use Rattle.o2_model.specs.Volume.{Volume, opened}
use Rattle.o2_model.specs.Consistent.{IsConsistent, HasSoundSkeleton}
use Rattle.o2_model.specs.Dirty.{dirty_slots, journal_fault}
use Rattle.o2_model.specs.Anchors.{anchors_of, log_fault}
use Rattle.o2_model.specs.Checks.Super.{super_faults}
use Rattle.o2_model.specs.Checks.Sysdir.{sysdir_faults}
use Rattle.o2_model.specs.Replay.{replayed}
use Rattle.o2_model.specs.TornReplays.{dirty_journals, IsPartialReplay}

-- no block is an anchor in two ways, where there is something to replay
abbrev pub AreAnchorsApart : Volume → Type 0
AreAnchorsApart v = (s : ℕ) → among (dirty_slots v) s ≡ true → IsDistinct nat_eq (anchors_of v)

-- V can be replayed, and has the dirty slots and the journals of the volume v.
pub record IsReplayable (v : Volume) (V : Image) : Type 0 where
  pub volume : Volume
  pub is_opened : opened V ≡ Some volume
  pub supported : unsupported_feature V ≡ None
  pub sound_super : super_faults volume ≡ []
  pub sound_sysdir : sysdir_faults volume ≡ []
  pub no_journal_fault : journal_fault volume ≡ None
  pub no_log_fault : log_fault volume ≡ None
  pub anchors_apart : AreAnchorsApart volume
  pub same_slots : dirty_slots volume ≡ dirty_slots v
  pub same_journals : dirty_journals volume ≡ dirty_journals v

-- There is a volume, and each image that a torn replay of it leaves can be replayed.
pub record IsReplayStable (I : Image) : Type 0 where
  pub volume : Volume
  pub is_opened : opened I ≡ Some volume
  pub each : (V : Image) → IsPartialReplay I V → IsReplayable volume V

-- A replay gives a volume on which nothing fails, also after it was stopped.
pub record IsRecoverable (I : Image) : Type 0 where
  pub stable : IsReplayStable I
  pub consistent : IsConsistent (replayed I)

-- A replay gives a volume with a sound skeleton, also after it was stopped.
pub record IsRepairable (I : Image) : Type 0 where
  pub stable : IsReplayStable I
  pub skeleton : HasSoundSkeleton (replayed I)
