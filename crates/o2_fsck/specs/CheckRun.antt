-- What a run that checks a volume promises.
use Rattle.std.specs.Prelude.{◌≡◌, ◌≢◌, List, ℕ, codes, Some}
use Rattle.o2_disk.specs.Device.{DiskState, ReadsOnly, Rose, IsAttachedOnce, IsAttachedAtMostOnce, IsWritable}
use Rattle.o2_disk.specs.Output.{SinkState, FailsLast, StopsAtFault}
use Rattle.o2_disk.specs.declared.disk.How.TheVariants.{ReadOnly}
use Rattle.o2_model.specs.Image.{Image}
use Rattle.o2_cause.specs.Causes.{cause_line}
use Rattle.o2_cause.specs.declared.cause.Cause.{Cause}
use Rattle.o2_cause.specs.declared.cause.Cause.TheVariants.{Fine, Uncorrected, NotOcfs2, Unsupported, DeviceFault, OutputFault, NoMemory}
use Rattle.o2_fsck.specs.Verdicts.{ComesFor, Puts, PutsReport, BeginsReport}

-- the causes by which a check ends, whatever the device tells
abbrev pub IsOfCheck : Cause → Type 0
IsOfCheck Fine = Unit {0}
IsOfCheck (Uncorrected check block) = Unit {0}
IsOfCheck NotOcfs2 = Unit {0}
IsOfCheck (Unsupported what block) = Unit {0}
IsOfCheck DeviceFault = Unit {0}
IsOfCheck OutputFault = Unit {0}
IsOfCheck NoMemory = Unit {0}
IsOfCheck _ = ⊥

-- What the sink took of a check that ended by this cause: the report where the volume was checked, of which nothing or first bytes
-- stand where memory ran out; else the cause's line.
abbrev pub IsReply : Image → Cause → SinkState → SinkState → Type 0
IsReply I Fine old new = PutsReport I old new
IsReply I (Uncorrected check block) old new = PutsReport I old new
IsReply I OutputFault old new = PutsReport I old new
IsReply I NoMemory old new = BeginsReport I old new
IsReply I cause old new = Puts old new (cause_line (codes "fsck") cause)

-- A run checked the volume on the device of this name, or refused it, and ended by this cause. The device was old and is new; the
-- sink was before and is after.
pub record CheckRun (name : List ℕ) (old new : DiskState) (before after : SinkState) (cause : Cause) : Type 0 where
  -- it is answered by what stands first
  pub told : (I : Image) → old.content ≡ Some I → ComesFor I cause
  -- the sink takes the report of what fails, or why the volume was not checked
  pub reply : (I : Image) → old.content ≡ Some I → IsReply I cause before after
  -- it ends by causes of its own
  pub causes : IsOfCheck cause
  -- nothing is written
  pub reads : ReadsOnly old new
  -- the device is attached once for reading, under the name that is given
  pub named : cause ≢ NoMemory → IsAttachedOnce name ReadOnly old new
  -- where memory runs out maybe not at all
  pub at_most : IsAttachedAtMostOnce name ReadOnly old new
  -- and never for writing
  pub not_writable : cause ≢ NoMemory → IsWritable new.attached → ⊥
  -- a device fault comes with a fault that the device has told
  pub fault : cause ≡ DeviceFault → Rose old.faults new.faults
  -- nothing is put behind the sink's first fault
  pub stops : StopsAtFault before after
  -- which stands in place of Fine alone
  pub fine : cause ≡ Fine → after.faults ≡ before.faults
  pub output_fault : cause ≡ OutputFault → FailsLast before after
