-- What a run that answers a query promises.
use Rattle.std.specs.Prelude.{◌≡◌, ◌≢◌, List, ℕ, Some}
use Rattle.o2_disk.specs.Device.{DiskState, ReadsOnly, Rose, IsAttachedOnce, IsAttachedAtMostOnce, IsWritable}
use Rattle.o2_disk.specs.Output.{SinkState, FailsLast, StopsAtFault}
use Rattle.o2_disk.specs.declared.disk.How.TheVariants.{ReadOnly}
use Rattle.o2_model.specs.Image.{Image}
use Rattle.o2_cause.specs.declared.cause.Cause.{Cause}
use Rattle.o2_cause.specs.declared.cause.Cause.TheVariants.{Fine, NotOcfs2, Unsupported, Absent, WrongKind, Bad, DeviceFault, OutputFault, NoMemory}
use Rattle.o2_debug.specs.declared.query.Query.{Query}
use Rattle.o2_debugfs.specs.Replies.{ComesFor, IsReply, TakesReport, TakesSomeOfReport}

-- the causes by which a query that is answered ends, whatever the device tells
abbrev pub IsOfQuery : Cause → Type 0
IsOfQuery Fine = Unit {0}
IsOfQuery NotOcfs2 = Unit {0}
IsOfQuery (Unsupported what block) = Unit {0}
IsOfQuery (Absent path) = Unit {0}
IsOfQuery (WrongKind path) = Unit {0}
IsOfQuery (Bad check block) = Unit {0}
IsOfQuery DeviceFault = Unit {0}
IsOfQuery OutputFault = Unit {0}
IsOfQuery NoMemory = Unit {0}
IsOfQuery _ = ⊥

-- A run answered the query on the device of this name, or refused it, and ended by this cause. The device was old and is
-- new; the sink was before and is after.
pub record QueryRun (query : Query) (name : List ℕ) (old new : DiskState) (before after : SinkState) (cause : Cause) : Type 0 where
  -- it is answered by what stands first
  pub told : (I : Image) → old.content ≡ Some I → ComesFor query I cause
  -- it is fine only with its report
  pub report : (I : Image) → old.content ≡ Some I → cause ≡ Fine → TakesReport query I before after
  -- and where the output failed, with its first bytes
  pub cut : (I : Image) → old.content ≡ Some I → cause ≡ OutputFault → TakesSomeOfReport query I before after
  -- the sink takes first bytes of the report, or none where the query is refused, and then the cause's line
  pub reply : (I : Image) → old.content ≡ Some I → IsReply query I cause before after
  -- it ends by causes of its own
  pub causes : IsOfQuery cause
  -- nothing is written
  pub reads : ReadsOnly old new
  -- the device is attached once for reading, under the name that is given
  pub named : cause ≢ NoMemory → IsAttachedOnce name ReadOnly old new
  -- where memory runs out maybe not at all
  pub at_most : IsAttachedAtMostOnce name ReadOnly old new
  -- and never for writing
  pub not_writable : cause ≢ NoMemory → IsWritable new.attached → ⊥
  -- a device fault comes with a fault that the device has told
  pub fault : cause ≡ DeviceFault → Rose old.faults new.faults
  -- nothing is put behind the sink's first fault
  pub stops : StopsAtFault before after
  -- which stands in place of Fine alone
  pub fine : cause ≡ Fine → after.faults ≡ before.faults
  pub output_fault : cause ≡ OutputFault → FailsLast before after
