-- The report of a query, and when each cause comes.
use Rattle.std.specs.Prelude.{◌≡◌, ◌⊎◌, ℕ, List, codes, Some, None}
use Rattle.std.specs.Option.{option_map_or}
use Rattle.o2_disk.specs.Device.{Rose}
use Rattle.o2_disk.specs.Output.{SinkState}
use Rattle.o2_model.specs.Image.{Image}
use Rattle.o2_model.specs.Superblock.{superblock_bits}
use Rattle.o2_model.specs.Features.{unsupported_feature}
use Rattle.o2_view.specs.OwnChecks.{FailsFirst}
use Rattle.o2_skeleton.specs.Skeleton.{HasSkeleton, skeleton_checks}
use Rattle.o2_cause.specs.Causes.{cause_line, IsRefusal}
use Rattle.o2_cause.specs.Taken.{Takes, TakesSome}
use Rattle.o2_cause.specs.declared.cause.Cause.{Cause}
use Rattle.o2_cause.specs.declared.cause.Cause.TheVariants.{Fine, NotOcfs2, Unsupported, Absent, WrongKind, Bad, DeviceFault, OutputFault, NoMemory}
use Rattle.o2_open.specs.Openings.{IsServed}
use Rattle.o2_debug.specs.Queries.{named_path, IsAnswerText, IsAbsent, IsOfWrongKind, FailsOn}
use Rattle.o2_debug.specs.declared.fault.DebugFault.{DebugFault}
use Rattle.o2_debug.specs.declared.fault.DebugFault.TheVariants as debug
use Rattle.o2_debug.specs.declared.query.Query.{Query}

-- ---- the report of a query
-- This text is the report of the query: it answers the query, and stands where Fine would. Any other query has none.
abbrev pub IsReportOf : Query → Image → List ℕ → Type 0
IsReportOf query I text = IsServed I (λ v. HasSkeleton v × IsAnswerText query v text)

-- the query has a report
abbrev pub HasReport : Query → Image → Type 0
HasReport query I = (text : List ℕ) × IsReportOf query I text

-- the sink took the report
abbrev pub TakesReport : Query → Image → SinkState → SinkState → Type 0
TakesReport query I old new = (text : List ℕ) × (IsReportOf query I text × Takes old new text)

-- or its first bytes, maybe none or all
abbrev pub TakesSomeOfReport : Query → Image → SinkState → SinkState → Type 0
TakesSomeOfReport query I old new = (text : List ℕ) × (IsReportOf query I text × TakesSome old new text)

-- nothing was put, or first bytes of the report
abbrev pub BeginsReport : Query → Image → SinkState → SinkState → Type 0
BeginsReport query I old new = (new ≡ old) ⊎ TakesSomeOfReport query I old new

-- What the sink took of a query that ended by this cause: first bytes of the report, none of one that was refused, and
-- then the cause's line, which is whole where the sink did not fail.
pub record IsReply (query : Query) (I : Image) (cause : Cause) (old new : SinkState) : Type 0 where
  pub between : SinkState
  pub report : BeginsReport query I old between
  pub refused : IsRefusal cause → between ≡ old
  pub line : TakesSome between new (cause_line (codes "debugfs") cause)
  pub whole : (Rose old.faults new.faults → ⊥) → Takes between new (cause_line (codes "debugfs") cause)

-- ---- the causes
-- When each cause answers a query, where the device has this content. A fault and want of memory come where they happen.
abbrev pub ComesFor : Query → Image → Cause → Type 0
ComesFor query I Fine = HasReport query I
ComesFor query I OutputFault = HasReport query I
ComesFor query I NotOcfs2 = superblock_bits I ≡ None
ComesFor query I (Unsupported what block) = (unsupported_feature I ≡ Some what) × (block ≡ 2)
ComesFor query I (Bad check b) = IsServed I (λ v. FailsFirst skeleton_checks v check b ⊎ (HasSkeleton v × FailsOn query v check b))
ComesFor query I (Absent path) = (named_path query ≡ Some path) × IsServed I (λ v. HasSkeleton v × IsAbsent query v)
ComesFor query I (WrongKind path) = (named_path query ≡ Some path) × IsServed I (λ v. HasSkeleton v × IsOfWrongKind query v)
ComesFor query I DeviceFault = Unit {0}
ComesFor query I NoMemory = Unit {0}
ComesFor query I _ = ⊥

-- a cause that tells the query's whole path. A query without a path ends by none of these, and memory may run out at any time.
abbrev pub with_path : (List ℕ → Cause) → Query → Cause
with_path cause query = option_map_or cause (named_path query) NoMemory

-- the cause of the same name
abbrev pub cause_of_query : Query → DebugFault → Cause
cause_of_query query debug.NoMemory = NoMemory
cause_of_query query debug.DeviceFault = DeviceFault
cause_of_query query debug.OutputFault = OutputFault
cause_of_query query debug.Absent = with_path (λ path. Absent path) query
cause_of_query query debug.WrongKind = with_path (λ path. WrongKind path) query
cause_of_query query (debug.Bad check block) = Bad check block
