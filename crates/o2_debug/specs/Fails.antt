-- Why a query was not answered, or not to its end.
use Rattle.std.specs.Prelude.{◌⊎◌, ℕ, List}
use Rattle.o2_disk.specs.Device.{DiskState, Rose}
use Rattle.o2_disk.specs.Output.{SinkState, FailsLast}
use Rattle.o2_disk.specs.declared.disk.Disk as disk
use Rattle.o2_model.specs.Volume.{Volume}
use Rattle.o2_model.specs.declared.geo.Geo.{Geo}
use Rattle.o2_view.specs.OwnChecks.{OwnCheck, FailsFirst, IsBad}
use Rattle.o2_view.specs.Views.{view_state, Shows}
use Rattle.o2_view.specs.declared.view.View.{View}
use Rattle.o2_skeleton.specs.Skeleton.{HasSkeleton, skeleton_checks}
use Rattle.o2_debug.specs.declared.fault.DebugFault.{DebugFault}
use Rattle.o2_debug.specs.declared.fault.DebugFault.TheVariants as debug
use Rattle.o2_debug.specs.declared.query.Query.{Query}
use Rattle.o2_debug.specs.Queries.{AnswersSomeAt, IsAbsent, IsOfWrongKind, FailsOn}

-- why lines were not put, or not to their end: memory may end before the first of them, and the output at any
abbrev pub LinesFail : SinkState → SinkState → DebugFault → Type 0
LinesFail before after debug.NoMemory = Unit {0}
LinesFail before after debug.OutputFault = FailsLast before after
LinesFail before after _ = ⊥

module _ {D : Type 0} {N : ℕ} {g : disk.Ghosts D} where
  -- Why a text was not put, or not to its end. `kept` says that nothing was put, `part` that first bytes of the text were, and
  -- `other` what WrongKind means.
  abbrev pub AnswerFails : View D N g → View D N g → Geo → List OwnCheck → SinkState → SinkState → Type 0 → (Volume → Type 0) → Type 0 → DebugFault → Type 0
  AnswerFails old new geo checks before after kept part other debug.NoMemory = Unit {0}
  AnswerFails old new geo checks before after kept part other debug.DeviceFault = Rose (view_state old).faults (view_state new).faults
  AnswerFails old new geo checks before after kept part other debug.OutputFault = FailsLast before after × ((v : Volume) → Shows old geo v → part v)
  AnswerFails old new geo checks before after kept part other debug.Absent = ⊥
  AnswerFails old new geo checks before after kept part other debug.WrongKind = kept × other
  AnswerFails old new geo checks before after kept part other (debug.Bad check b) = kept × IsBad old geo checks check b

-- Why a query was not answered, or not to its end, where the skeleton of the volume is sound. `Seen` says which volume is meant, and `kept` that nothing was put.
abbrev pub AnswerFailsAt : (Volume → Type 0) → DiskState → DiskState → Query → SinkState → SinkState → Type 0 → DebugFault → Type 0
AnswerFailsAt Seen old new query before after kept debug.NoMemory = Unit {0}
AnswerFailsAt Seen old new query before after kept debug.DeviceFault = Rose old.faults new.faults
AnswerFailsAt Seen old new query before after kept debug.OutputFault = FailsLast before after × ((v : Volume) → Seen v → AnswersSomeAt query v before after)
AnswerFailsAt Seen old new query before after kept debug.Absent = kept × ((v : Volume) → Seen v → IsAbsent query v)
AnswerFailsAt Seen old new query before after kept debug.WrongKind = kept × ((v : Volume) → Seen v → IsOfWrongKind query v)
AnswerFailsAt Seen old new query before after kept (debug.Bad check b) = kept × ((v : Volume) → Seen v → FailsOn query v check b)

-- The same, where the skeleton of the volume is judged first.
abbrev pub QueryFails : (Volume → Type 0) → DiskState → DiskState → Query → SinkState → SinkState → Type 0 → DebugFault → Type 0
QueryFails Seen old new query before after kept debug.NoMemory = Unit {0}
QueryFails Seen old new query before after kept debug.DeviceFault = Rose old.faults new.faults
QueryFails Seen old new query before after kept debug.OutputFault = FailsLast before after × ((v : Volume) → Seen v → HasSkeleton v × AnswersSomeAt query v before after)
QueryFails Seen old new query before after kept debug.Absent = kept × ((v : Volume) → Seen v → HasSkeleton v × IsAbsent query v)
QueryFails Seen old new query before after kept debug.WrongKind = kept × ((v : Volume) → Seen v → HasSkeleton v × IsOfWrongKind query v)
QueryFails Seen old new query before after kept (debug.Bad check b) = kept × ((v : Volume) → Seen v → FailsFirst skeleton_checks v check b ⊎ (HasSkeleton v × FailsOn query v check b))
