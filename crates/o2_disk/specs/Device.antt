-- What the calls of a disk do to its content, and what a crash may leave.
use Rattle.std.specs.Prelude.{◌≡◌, ◌⊎◌, ℕ, ◌+◌, ◌-◌, ◌^◌, ◌<◌, ◌≤◌, ◌/◌, ◌%◌, List, Option, Some, None, Result, OnOk, OnErr}
use Rattle.o2_disk.specs.Image.{Image}
use Rattle.o2_disk.specs.Attaches.{Attachment, and_attached}
use Rattle.o2_disk.specs.declared.disk.How.{How}
use Rattle.o2_disk.specs.declared.disk.How.TheVariants.{ReadOnly, ReadWrite}

-- what a contract knows of a disk
pub record DiskState : Type 1 where
  -- its attaches so far that found memory for their names, in order
  pub attaches : List Attachment
  -- how it is attached
  pub attached : Option How
  -- how many sectors it has
  pub sectors : ℕ
  -- the image that a read gives, where it is told
  pub content : Option Image
  -- the images that a crash at this moment may leave
  pub may_leave : Image → Type 0
  -- the images that a crash at some moment from that one on may have left
  pub left_since : ℕ → Image → Type 0
  -- the moment, a number that doesn't fall
  pub moment : ℕ
  -- how often a call has failed
  pub faults : ℕ

-- Where the old content is told, so is the new, and they are related.
abbrev pub Told : (Image → Image → Type 0) → DiskState → DiskState → Type 0
Told R old new = (I : Image) → old.content ≡ Some I → (J : Image) × (new.content ≡ Some J) × R I J

-- each image that a crash may leave now is one that it might have left before, after a step
abbrev pub Follows : (Image → Image → Type 0) → DiskState → DiskState → Type 0
Follows step old new = (X : Image) → new.may_leave X → (Y : Image) × old.may_leave Y × step Y X

-- and each such step is one that a crash may leave
abbrev pub Leads : (Image → Image → Type 0) → DiskState → DiskState → Type 0
Leads step old new = (Y X : Image) → old.may_leave Y → step Y X → new.may_leave X

-- what a crash might have left, it may leave still
abbrev pub StaysPending : DiskState → DiskState → Type 0
StaysPending old new = (X : Image) → old.may_leave X → new.may_leave X

-- a crash leaves this and nothing else
abbrev pub Only : DiskState → Image → Type 0
Only d I = (X : Image) → d.may_leave X → X ≡ I

-- the content is this image, and nothing is pending
pub record IsSettled (d : DiskState) (I : Image) : Type 0 where
  pub content : d.content ≡ Some I
  pub only : Only d I

-- some whole sectors within the disk
pub record IsRange (d : DiskState) (at bytes : ℕ) : Type 0 where
  pub whole : bytes % 512 ≡ 0
  pub within : at + bytes / 512 ≤ d.sectors

-- it is attached for writing
abbrev pub IsWritable : Option How → Type 0
IsWritable (Some ReadOnly) = ⊥
IsWritable (Some ReadWrite) = Unit {0}
IsWritable None = ⊥

-- no call but `attach` changes these
pub record SameDevice (old new : DiskState) : Type 0 where
  pub attaches : new.attaches ≡ old.attaches
  pub attached : new.attached ≡ old.attached
  pub sectors : new.sectors ≡ old.sectors

-- between the two it was attached once, under this name and in this way
abbrev pub IsAttachedOnce : List ℕ → How → DiskState → DiskState → Type 0
IsAttachedOnce name how old new = new.attaches ≡ and_attached old.attaches name how

-- or not at all
abbrev pub IsAttachedAtMostOnce : List ℕ → How → DiskState → DiskState → Type 0
IsAttachedAtMostOnce name how old new = (new.attaches ≡ old.attaches) ⊎ IsAttachedOnce name how old new

-- A call that writes nothing changes no content, and adds nothing to what a crash may leave.
pub record Keeps (old new : DiskState) : Type 0 where
  pub content : new.content ≡ old.content
  pub may_leave : (X : Image) → new.may_leave X → old.may_leave X

-- Time goes on: a crash since t might have left what it might have left before, or what it may leave now.
pub record Elapses (old new : DiskState) : Type 0 where
  pub later : old.moment ≤ new.moment
  pub nothing_else : (t : ℕ) (X : Image) → t ≤ old.moment → new.left_since t X → old.left_since t X ⊎ new.may_leave X
  pub keeps : (t : ℕ) (X : Image) → t ≤ old.moment → old.left_since t X → new.left_since t X

-- Where the content is told, a read, a write and a sync take one moment each. Only a call that fails for want of
-- memory may take none, and it changes nothing.
pub record Ticks {T E : Type 0} (old new : DiskState) (result : Result T E) : Type 0 where
  pub ok : OnOk result ((I : Image) → old.content ≡ Some I → new.moment ≡ old.moment + 1)
  pub failed : OnErr result ((I : Image) → old.content ≡ Some I → (new.moment ≡ old.moment + 1) ⊎ ((new.moment ≡ old.moment) × Keeps old new))

-- the count of faults is above its value at the entry, or at its last value
abbrev pub Rose : ℕ → ℕ → Type 0
Rose old new = (old < new) ⊎ (new ≡ 2 ^ 64 - 1)

-- The count of faults never falls. A call that fails raises it, and no other does.
pub record HasCause {T E : Type 0} (old new : ℕ) (result : Result T E) : Type 0 where
  pub later : old ≤ new
  pub ok : OnOk result (new ≡ old)
  pub failed : OnErr result (Rose old new)

-- A crash at any moment since old leaves an image that has P.
pub record LeavesOnly (old new : DiskState) (P : Image → Type 0) : Type 0 where
  pub later : old.moment ≤ new.moment
  pub each : (X : Image) → new.left_since old.moment X → P X
  -- for a run that began earlier
  pub before : (t : ℕ) (X : Image) → t ≤ old.moment → new.left_since t X → old.left_since t X ⊎ P X

-- Each crash since first, and each at this moment, leaves an image that has P.
pub record Runs (first now : DiskState) (P : Image → Type 0) : Type 0 where
  pub so_far : LeavesOnly first now P
  pub may_leave : (X : Image) → now.may_leave X → P X

-- Between the two nothing was written: a read gives the same, and a crash leaves nothing new.
pub record ReadsOnly (old new : DiskState) : Type 0 where
  pub content : new.content ≡ old.content
  pub may_leave : (X : Image) → new.may_leave X → old.may_leave X
  pub later : old.moment ≤ new.moment
  pub left_since : (t : ℕ) (X : Image) → t ≤ old.moment → new.left_since t X → old.left_since t X
