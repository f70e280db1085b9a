-- What a record of calls says of each sector.
use Rattle.std.specs.Prelude.{◌≡◌, ℕ, ◌+◌, ◌-◌, ◌*◌, ◌%◌, ◌<◌, ◌≤◌, ◌&&◌, Bool, true, false, List, [], ◌∷◌, ◌++◌, length, take, slice_index, slice_index_or, nat_lt, nat_le, if◌then◌else◌, Option, Some, None, unwrap_or, option_to_list}
use Rattle.std.specs.List.{Contains}
use Rattle.std.specs.BTreeMap.{BTreeMap}
use Rattle.o2_disk.specs.Stored.{stored}
use Rattle.o2_disk.specs.Image.{Image, sector, image_of, sectors_in, piece, zero_sector}
use Rattle.o2_disk.specs.Attaches.{Attachment}
use Rattle.o2_disk.specs.Device.{DiskState}
use Rattle.o2_disk.specs.declared.disk.How.{How}
use Rattle.o2_disk.specs.declared.call.Call.{Call}
use Rattle.o2_disk.specs.declared.call.Call.TheVariants.{Read, Write, Zeros, Sync, FailedSync}

-- what each sector may hold after a crash, the oldest first: the last is what a read gives
abbrev pub Choices : Type 0
Choices = ℕ → List (List ℕ)

abbrev pub newest : List (List ℕ) → List ℕ
newest choices = slice_index_or choices (length choices - 1) []

-- what these bytes, written from sector `at` on, put into sector s
abbrev pub put_into : ℕ → List ℕ → ℕ → Option (List ℕ)
put_into at bytes s = if nat_le at s && nat_lt s (at + sectors_in bytes) then Some (piece bytes (s - at)) else None

-- what a call puts into sector s
abbrev pub put_by : Call → ℕ → Option (List ℕ)
put_by Read s = None
put_by (Write at bytes) s = put_into at bytes.items s
put_by (Zeros at sectors) s = if nat_le at s && nat_lt s (at + sectors) then Some zero_sector else None
put_by Sync s = None
put_by FailedSync s = None

-- what the k-th call puts into sector s, and zeros where it puts nothing
abbrev pub put_or_zeros : List Call → ℕ → ℕ → List ℕ
put_or_zeros calls k s = unwrap_or (put_by (slice_index_or calls k Read) s) zero_sector

-- one call more
abbrev pub step : Call → Choices → Choices
step Read may = may
step (Write at bytes) may = λ s. may s ++ option_to_list (put_by (Write at bytes) s)
step (Zeros at sectors) may = λ s. may s ++ option_to_list (put_by (Zeros at sectors) s)
step Sync may = λ s. newest (may s) ∷ []
step FailedSync may = may

abbrev pub run : Choices → List Call → Choices
run may [] = may
run may (c ∷ calls) = run (step c may) calls

abbrev pub start : BTreeMap ℕ (List ℕ) → Choices
start base = λ s. stored base s ∷ []

-- after the first k of the calls
abbrev pub moment_of : BTreeMap ℕ (List ℕ) → List Call → ℕ → Choices
moment_of base calls k = run (start base) (take k calls)

-- each sector holds one of its choices
pub record IsOutcome (sectors : ℕ) (may : Choices) (X : Image) : Type 0 where
  pub size : length X ≡ sectors
  pub each : (s : ℕ) → s < sectors → Contains (may s) (sector X s)

-- what a read gives
unfoldable pub shown : ℕ → Choices → Image
shown sectors may = image_of sectors (λ s. newest (may s))

-- some moment from t on, and an outcome of it
pub record Since (sectors : ℕ) (base : BTreeMap ℕ (List ℕ)) (calls : List Call) (t : ℕ) (X : Image) : Type 0 where
  pub moment : ℕ
  pub from : t ≤ moment
  pub past : moment ≤ length calls
  pub outcome : IsOutcome sectors (moment_of base calls moment) X

abbrev pub mem_state : List Attachment → Option How → ℕ → BTreeMap ℕ (List ℕ) → List Call → ℕ → DiskState
mem_state attaches attached sectors base calls faults = record {
  attaches = attaches;
  attached = attached;
  sectors = sectors;
  content = Some (shown sectors (run (start base) calls));
  may_leave = IsOutcome sectors (run (start base) calls);
  left_since = Since sectors base calls;
  moment = length calls;
  faults = faults;
}

-- number `choice * (s + 1)` of a sector's choices, counted round
abbrev pub chosen : ℕ → ℕ → List (List ℕ) → List ℕ
chosen choice s choices = slice_index_or choices (choice * (s + 1) % length choices) []

abbrev pub AreZeros : List ℕ → Type 0
AreZeros bytes = (i : ℕ) → i < length bytes → slice_index bytes i ≡ 0

-- how a write of these bytes is recorded
abbrev pub RecordsWrite : ℕ → List ℕ → Call → Type 0
RecordsWrite at bytes Read = ⊥
RecordsWrite at bytes (Write from kept) = (from ≡ at) × (kept.items ≡ bytes) × (AreZeros bytes → ⊥)
RecordsWrite at bytes (Zeros from sectors) = (from ≡ at) × (sectors ≡ sectors_in bytes) × AreZeros bytes
RecordsWrite at bytes Sync = ⊥
RecordsWrite at bytes FailedSync = ⊥

abbrev pub is_read : Call → Bool
is_read Read = true
is_read (Write at bytes) = false
is_read (Zeros at sectors) = false
is_read Sync = false
is_read FailedSync = false
