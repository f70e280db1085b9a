-- What a contract knows of a disk in memory.
use Rattle.std.specs.Prelude.{◌≡◌, ◌⊎◌, ℕ, ◌+◌, Bool, List, [], ◌∷◌, ◌++◌, length, nat_lt, if◌then◌else◌, true, false, None, Result, OnOk, OnErr, IsErrOf}
use Rattle.std.specs.List.{Contains}
use Rattle.o2_disk.specs.Image.{Image, sector, image_of, zero_sector}
use Rattle.o2_disk.specs.Attaches.{attachments_of}
use Rattle.o2_disk.specs.Device.{DiskState, Rose}
use Rattle.o2_disk.specs.Calls.{mem_state, moment_of, IsOutcome, chosen}
use Rattle.o2_disk.specs.declared.call.Call.{Call}
use Rattle.o2_disk.specs.declared.disk.AttachFault.{AttachFault}
use Rattle.o2_disk.specs.declared.disk.AttachFault.TheVariants.{NoMemory, Failed}
use Rattle.o2_disk.specs.declared.mem_disk.MemDisk.{MemDisk}

-- the state that the trait speaks of
abbrev pub disk_state : MemDisk → DiskState
disk_state m = mem_state (attachments_of m.attaches.items) m.attached m.sectors m.base m.calls.items m.faults

-- the calls that took a number, in their order
abbrev pub recorded : MemDisk → List Call
recorded m = m.calls.items

-- the numbers of the calls that are to fail
abbrev pub failing_calls : MemDisk → List ℕ
failing_calls m = m.failing.numbers.items

-- the next attach is to fail
abbrev pub fails_attach : MemDisk → Bool
fails_attach m = m.attach_fails

-- how many calls found no memory
abbrev pub starved_calls : MemDisk → ℕ
starved_calls m = m.starved

-- what sector s may hold after a crash behind the first k calls, the oldest first
abbrev pub choices_after : MemDisk → ℕ → ℕ → List (List ℕ)
choices_after m k s = moment_of m.base m.calls.items k s

-- what such a crash may leave
abbrev pub may_leave_after : MemDisk → ℕ → Image → Type 0
may_leave_after m k = IsOutcome m.sectors (moment_of m.base m.calls.items k)

-- what a crash behind that call leaves at a choice
abbrev pub stopped_image : MemDisk → ℕ → ℕ → Image
stopped_image m call choice = image_of m.sectors (λ s. chosen choice s (choices_after m (call + 1) s))

-- the image cut to that many sectors, or followed by zeros
abbrev pub resized_image : ℕ → Image → Image
resized_image sectors I = image_of sectors (λ s. if nat_lt s (length I) then sector I s else zero_sector)

-- which calls are to fail stays as it was
pub record SameFailing (old new : MemDisk) : Type 0 where
  pub calls : failing_calls new ≡ failing_calls old
  pub attach : fails_attach new ≡ fails_attach old

-- the call took a number, and a record of that kind stands for it
pub record TakesNumber (kind : Call → Type 0) (old new : MemDisk) : Type 0 where
  pub call : Call
  pub is : kind call
  pub last : recorded new ≡ recorded old ++ call ∷ []
  pub starved : starved_calls new ≡ starved_calls old

-- the call found no memory: it took no number
pub record Starves (old new : MemDisk) : Type 0 where
  pub same : recorded new ≡ recorded old
  pub starved : Rose (starved_calls old) (starved_calls new)

-- A call takes the next number and fails where that number is set, or it starves.
pub record Numbered {T E : Type 0} (kind failed_kind : Call → Type 0) (old new : MemDisk) (result : Result T E) : Type 0 where
  pub ok : OnOk result (TakesNumber kind old new × (Contains (failing_calls old) (length (recorded old)) → ⊥))
  pub failed : OnErr result ((TakesNumber failed_kind old new × Contains (failing_calls old) (length (recorded old))) ⊎ Starves old new)

-- An attach fails where it is to, once, or it starves.
pub record Attaches {T : Type 0} (old new : MemDisk) (result : Result T AttachFault) : Type 0 where
  pub calls : recorded new ≡ recorded old
  pub failing : failing_calls new ≡ failing_calls old
  pub ok : OnOk result ((fails_attach old ≡ false) × (fails_attach new ≡ false) × (starved_calls new ≡ starved_calls old))
  pub failed : IsErrOf result Failed → (fails_attach old ≡ true) × (fails_attach new ≡ false) × (starved_calls new ≡ starved_calls old)
  pub no_memory : IsErrOf result NoMemory → (fails_attach new ≡ fails_attach old) × Rose (starved_calls old) (starved_calls new)

-- a disk that no call has reached yet
pub record IsFresh (sectors : ℕ) (m : MemDisk) : Type 0 where
  pub size : m.sectors ≡ sectors
  pub attaches : attachments_of m.attaches.items ≡ []
  pub attached : m.attached ≡ None
  pub calls : recorded m ≡ []
  pub failing : failing_calls m ≡ []
  pub attach : fails_attach m ≡ false
  pub faults : m.faults ≡ 0
  pub starved : starved_calls m ≡ 0

-- all but which calls are to fail is as it was
pub record SameDisk (old new : MemDisk) : Type 0 where
  pub attaches : attachments_of new.attaches.items ≡ attachments_of old.attaches.items
  pub attached : new.attached ≡ old.attached
  pub sectors : new.sectors ≡ old.sectors
  pub base : new.base ≡ old.base
  pub calls : recorded new ≡ recorded old
  pub faults : new.faults ≡ old.faults
  pub starved : starved_calls new ≡ starved_calls old
