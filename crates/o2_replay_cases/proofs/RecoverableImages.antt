-- The image with a dirty journal is recoverable, and the one whose log harms the system directory is not replay-stable.
use Rattle.std.proofs.Common.{◌≡◌, ◌≢◌, ◌⊎◌, ⊎_elim, ℕ, Bool, true, false, ◌&&◌, not, nat_eq, List, [], ◌∷◌, refl, sym, ◌∙◌, ap, subst, arith, Some, None}
use Rattle.std.specs.Option.{option_map}
use Rattle.std.specs.List.{list_all, AllByRecursion, IsDistinct}
use Rattle.std.proofs.lemmas.Bool.{and_parts, ne_eqb}
use Rattle.o2_disk.specs.Image.{Image}
use Rattle.o2_model.specs.Anchors.{log_fault}
use Rattle.o2_model.specs.Consistent.{IsConsistent, failing_checks}
use Rattle.o2_model.specs.Volume.{Volume, opened}
use Rattle.o2_model.specs.Failing.{failing}
use Rattle.o2_model.specs.Replay.{replayed}
use Rattle.o2_model.specs.TornReplays.{IsPartialReplay}
use Rattle.o2_model.specs.Recoverable.{IsReplayable, IsReplayStable}
use Rattle.o2_model.specs.Structures.{unsupported_structure}
use Rattle.o2_model.specs.declared.check.Check.{Check}
use Rattle.o2_model.proofs.Replays.{partial_self, stable_self}
use Rattle.o2_cases_volumes.specs.WholeVolume.{on_device, volume_with}
use Rattle.o2_replay_cases.specs.WholeImages.{CanBeReplayed, HasOneWrite, IsVolume, image_with, dirty_blocks, clean_blocks, stopped_blocks, dirty_image, replayed_image, stopped_image}
use Rattle.o2_replay_cases.proofs.VolumesOfImages.{opened-image_with, supported-image_with}
use Rattle.o2_replay_cases.proofs.OneWriteReplays.{IsReplayed, replayed-is}
use Rattle.o2_replay_cases.proofs.OneWriteStops.{partial_is, partial_of}

-- ---- consistent images
pub consistent_of : (blocks : ℕ → List ℕ) → IsVolume blocks → failing (volume_with blocks) ≡ [] → unsupported_structure (volume_with blocks) ≡ None → IsConsistent (image_with blocks)
consistent_of blocks is none supported = record {
  volume = volume_with blocks;
  is_opened = opened-image_with blocks is;
  supported_features = supported-image_with blocks is;
  supported_structures = supported;
  none_fails = none;
}

pub failing_of : (blocks : ℕ → List ℕ) → IsVolume blocks → failing_checks (image_with blocks) ≡ failing (volume_with blocks)
failing_of blocks is = rw (opened-image_with blocks is) refl

one_and_none : {A : Type 0} (x : A) → x ∷ [] ≡ [] → ⊥
one_and_none x e = cc

-- where one thing fails, the image is not consistent
pub not_consistent : (I : Image) (pair : Check × ℕ) → failing_checks I ≡ pair ∷ [] → IsConsistent I → ⊥
not_consistent I pair fails h = one_and_none pair (sym fails ∙ nothing_fails)
  where
    nothing_fails : failing_checks I ≡ []
    nothing_fails = rw h.is_opened h.none_fails

-- ---- the replay
other_replayed : (s : ℕ) → s ≢ 25 → s ≢ 88 → on_device clean_blocks s ≡ on_device dirty_blocks s
unfolding on_device
other_replayed s a b = rw (ne_eqb s 25 a, ne_eqb s 88 b) refl

other_stopped : (s : ℕ) → s ≢ 88 → on_device stopped_blocks s ≡ on_device dirty_blocks s
unfolding on_device
other_stopped s b = rw (ne_eqb s 88 b) refl

dirty_replays : IsVolume dirty_blocks → IsVolume clean_blocks → HasOneWrite dirty_blocks clean_blocks 25 88 → IsReplayed dirty_blocks clean_blocks 25 88
dirty_replays before later one = record {
  before = before;
  later = later;
  one = one;
  journal_there = omega arith;
  target_there = omega arith;
  apart = λ e. omega (arith, e);
  others = other_replayed;
}

pub dirty_replayed : IsVolume dirty_blocks → IsVolume clean_blocks → HasOneWrite dirty_blocks clean_blocks 25 88 → replayed dirty_image ≡ replayed_image
dirty_replayed before later one = replayed-is dirty_blocks clean_blocks 25 88 (dirty_replays before later one)

-- what is found of the volume after the replay
pub found_after : {A : Type 0} (f : Volume → A) → IsVolume clean_blocks → replayed dirty_image ≡ replayed_image → option_map f (opened (replayed dirty_image)) ≡ Some (f (volume_with clean_blocks))
found_after f later is = ap (λ I. option_map f (opened I)) is ∙ ap (option_map f) (opened-image_with clean_blocks later)

-- ---- where it is stopped
pub dirty_itself : IsVolume dirty_blocks → IsPartialReplay dirty_image dirty_image
dirty_itself is = partial_self dirty_image (volume_with dirty_blocks) (opened-image_with dirty_blocks is)

module _ (before : IsVolume dirty_blocks) (later : IsVolume clean_blocks) (one : HasOneWrite dirty_blocks clean_blocks 25 88) (put : on_device stopped_blocks 88 ≡ on_device clean_blocks 88) where
  pub dirty_partial : (V : Image) → IsPartialReplay dirty_image V → (V ≡ dirty_image) ⊎ (V ≡ stopped_image)
  dirty_partial = partial_is dirty_blocks clean_blocks 25 88 (dirty_replays before later one) stopped_blocks put other_stopped

  pub stopped_partial : IsPartialReplay dirty_image stopped_image
  stopped_partial = partial_of dirty_blocks clean_blocks 25 88 (dirty_replays before later one) stopped_blocks put other_stopped

-- a test that no number stands there twice
abbrev are_distinct : List ℕ → Bool
are_distinct [] = true
are_distinct (x ∷ xs) = list_all (λ y. not (nat_eq x y)) xs && are_distinct xs

all_other : (x : ℕ) (xs : List ℕ) → list_all (λ y. not (nat_eq x y)) xs ≡ true → AllByRecursion (λ y. nat_eq x y ≡ false) xs
all_other x [] h = tt
all_other x (y ∷ ys) h = let parts = and_parts (not (nat_eq x y)) _ h in (not_true (nat_eq x y) parts.0, all_other x ys parts.1)
  where
    not_true : (b : Bool) → not b ≡ true → b ≡ false
    not_true true e = cc
    not_true false e = refl

distinct : (xs : List ℕ) → are_distinct xs ≡ true → IsDistinct nat_eq xs
unfolding IsDistinct
distinct [] h = tt
distinct (x ∷ xs) h = let parts = and_parts (list_all (λ y. not (nat_eq x y)) xs) _ h in (all_other x xs parts.0, distinct xs parts.1)

-- where a replay may be started again, with the same slots and journals
replayable : (first blocks : ℕ → List ℕ) → IsVolume blocks → CanBeReplayed first → CanBeReplayed blocks → IsReplayable (volume_with first) (image_with blocks)
replayable first blocks is before can = record {
  volume = volume_with blocks;
  is_opened = opened-image_with blocks is;
  supported = supported-image_with blocks is;
  sound_super = can.sound_super;
  sound_sysdir = can.sound_sysdir;
  no_journal_fault = can.no_journal_fault;
  no_log_fault = can.no_log_fault;
  anchors_apart = λ s dirty. subst (IsDistinct nat_eq) (sym can.anchors) (distinct _ refl);
  same_slots = can.slots ∙ sym before.slots;
  same_journals = can.journals ∙ sym before.journals;
}

-- an image is stable where each that a torn replay leaves is one of two
pub stable_of_two : (old new : ℕ → List ℕ) → IsVolume old → IsVolume new → CanBeReplayed old → CanBeReplayed new
    → ((V : Image) → IsPartialReplay (image_with old) V → (V ≡ image_with old) ⊎ (V ≡ image_with new)) → IsReplayStable (image_with old)
stable_of_two old new is also can may two = record {
  volume = volume_with old;
  is_opened = opened-image_with old is;
  each = λ V part. ⊎_elim
      (λ same. subst (IsReplayable (volume_with old)) (sym same) (replayable old old is can can))
      (λ same. subst (IsReplayable (volume_with old)) (sym same) (replayable old new also can may))
      (two V part);
}

-- ---- a log that does harm
same_Some : {A : Type 0} (x y : A) → Some x ≡ Some y → x ≡ y
same_Some x y h = cc

not_None : {A : Type 0} (x : A) → Some x ≡ None → ⊥
not_None x h = cc

-- an image whose log has a bad write is not stable
pub not_stable : (blocks : ℕ → List ℕ) (fault : ℕ × ℕ) → IsVolume blocks → log_fault (volume_with blocks) ≡ Some fault → IsReplayStable (image_with blocks) → ⊥
not_stable blocks fault is harm h =
    let can = stable_self (image_with blocks) h in
    let same = same_Some can.volume (volume_with blocks) (sym can.is_opened ∙ opened-image_with blocks is) in
    not_None fault (sym harm ∙ subst (λ v. log_fault v ≡ None) same can.no_log_fault)
