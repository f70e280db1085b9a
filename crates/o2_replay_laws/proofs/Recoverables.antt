-- A consistent image is recoverable.
use Rattle.std.proofs.Common.{◌≡◌, [], refl, sym, subst, None}
use Rattle.std.proofs.lemmas.Bool.{false≢true}
use Rattle.o2_disk.specs.Image.{Image}
use Rattle.o2_model.specs.Volume.{Volume}
use Rattle.o2_model.specs.Anchors.{log_fault}
use Rattle.o2_model.specs.Consistent.{IsConsistent}
use Rattle.o2_model.specs.Dirty.{dirty_slots, journal_fault}
use Rattle.o2_model.specs.Recoverable.{AreAnchorsApart, IsReplayable, IsReplayStable, IsRecoverable}
use Rattle.o2_laws.proofs.NothingDirty.{consistent_clean, consistent_replayed}
use Rattle.o2_replay_laws.proofs.Replays.{no_variant}
use Rattle.o2_laws.proofs.Held.HeldImages.{super_holds}
use Rattle.o2_laws.proofs.Held.OwnInodes.{sysdir_holds}

-- ---- where nothing is dirty
pub no_journal_at_fault : (v : Volume) → dirty_slots v ≡ [] → journal_fault v ≡ None
unfolding journal_fault
no_journal_at_fault v none = rw none refl

pub no_log_at_fault : (v : Volume) → dirty_slots v ≡ [] → log_fault v ≡ None
unfolding log_fault
no_log_at_fault v none = rw none refl

pub anchors_free : (v : Volume) → dirty_slots v ≡ [] → AreAnchorsApart v
anchors_free v none s dirty = absurd (false≢true (rw none at dirty))

-- ---- images
consistent_replayable : (I : Image) (h : IsConsistent I) → IsReplayable h.volume I
consistent_replayable I h =
    let clean = consistent_clean I h.volume h h.is_opened in
    record {
      volume = h.volume;
      is_opened = h.is_opened;
      supported = h.supported_features;
      sound_super = super_holds h.volume h.none_fails;
      sound_sysdir = sysdir_holds h.volume h.none_fails;
      no_journal_fault = no_journal_at_fault h.volume clean;
      no_log_fault = no_log_at_fault h.volume clean;
      anchors_apart = anchors_free h.volume clean;
      same_slots = refl;
      same_journals = refl;
    }

consistent_stable : (I : Image) → IsConsistent I → IsReplayStable I
consistent_stable I h = record {
  volume = h.volume;
  is_opened = h.is_opened;
  each = λ V part. subst (IsReplayable h.volume) (sym (no_variant I V h.volume h.is_opened (consistent_clean I h.volume h h.is_opened) part)) (consistent_replayable I h);
}

pub consistent_recoverable : (I : Image) → IsConsistent I → IsRecoverable I
consistent_recoverable I h = record { stable = consistent_stable I h; consistent = subst IsConsistent (sym (consistent_replayed I h)) h }
