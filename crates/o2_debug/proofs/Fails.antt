-- The fault of one call as that of the call around it.
use Rattle.std.proofs.Common.{◌≡◌, inl, inr, ℕ, ◌≤◌, List, sym, subst, Result, Ok, Err}
use Rattle.std.specs.Result.{IfErr, IsErrAnd}
use Rattle.o2_disk.specs.Device.{DiskState}
use Rattle.o2_disk.specs.Output.{SinkState}
use Rattle.o2_disk.specs.declared.disk.Disk as disk
use Rattle.o2_model.specs.Volume.{Volume}
use Rattle.o2_model.specs.declared.check.Check.{Check}
use Rattle.o2_model.specs.declared.geo.Geo.{Geo}
use Rattle.o2_view.specs.OwnChecks.{OwnCheck, IsOwn, FailsFirst, ReadFails}
use Rattle.o2_view.specs.Views.{view_state, Shows, OnlyReads}
use Rattle.o2_view.specs.declared.fault.ReadFault.{ReadFault}
use Rattle.o2_view.specs.declared.fault.ReadFault.TheVariants as read
use Rattle.o2_view.specs.declared.view.View.{View}
use Rattle.o2_view.proofs.Faults.{rose_before}
use Rattle.o2_view.proofs.Shown.{still_shows}
use Rattle.o2_dir.specs.Paths.{OnPath, PathFails}
use Rattle.o2_dir.specs.declared.fault.PathFault.{PathFault}
use Rattle.o2_dir.specs.declared.fault.PathFault.TheVariants as path
use Rattle.o2_skeleton.specs.Skeleton.{HasSkeleton, skeleton_checks}
use Rattle.o2_debug.specs.Answers.{path_of, text_of, AnswersSome, IsOfOtherKind}
use Rattle.o2_debug.specs.PathAnswers.{PathLeads}
use Rattle.o2_debug.specs.Fails.{LinesFail, AnswerFails, AnswerFailsAt, QueryFails}
use Rattle.o2_debug.specs.Faults.{IsOfPath, IsOfRead}
use Rattle.o2_debug.specs.Objects.{query_checks}
use Rattle.o2_debug.specs.declared.fault.DebugFault.{DebugFault}
use Rattle.o2_debug.specs.declared.fault.DebugFault.TheVariants as debug
use Rattle.o2_debug.specs.declared.query.PathQuery.{PathQuery}
use Rattle.o2_debug.specs.declared.query.Query.{Query}
use Rattle.o2_debug.specs.declared.query.Query.TheVariants.{At}
use Rattle.o2_debug.proofs.AtPath.{same_beginning, answer_text}

module _ {D : Type 0} {N : ℕ} {g : disk.Ghosts D} where
  -- ---- of a text
  module _ (old new : View D N g) (geo : Geo) (before after : SinkState) (kept : Type 0) (part : Volume → Type 0) (other : Type 0) where
    -- lines were not put
    pub lines_fail : (checks : List OwnCheck) → ((v : Volume) → Shows old geo v → part v) → (fault : DebugFault) → LinesFail before after fault → AnswerFails old new geo checks before after kept part other fault
    lines_fail checks some debug.NoMemory fails = tt
    lines_fail checks some debug.DeviceFault fails = absurd fails
    lines_fail checks some debug.OutputFault fails = (fails, some)
    lines_fail checks some debug.Absent fails = absurd fails
    lines_fail checks some debug.WrongKind fails = absurd fails
    lines_fail checks some (debug.Bad check b) fails = absurd fails

  -- a text was not put behind a call that only reads
  pub answer_fails : {old mid : View D N g} (new : View D N g) (geo : Geo) (before after : SinkState) (kept : Type 0) (checks wider : List OwnCheck) (part more : Volume → Type 0) (late early : Type 0) → OnlyReads old mid
      → ((check : Check) → IsOwn checks check → IsOwn wider check)
      → ((v : Volume) → Shows old geo v → (check : Check) (b : ℕ) → FailsFirst checks v check b → FailsFirst wider v check b)
      → ((v : Volume) → Shows old geo v → part v → more v)
      → (late → early)
      → (fault : DebugFault) → AnswerFails mid new geo checks before after kept part late fault → AnswerFails old new geo wider before after kept more early fault
  answer_fails new geo before after kept checks wider part more late early only own first some other debug.NoMemory fails = tt
  answer_fails {old} {mid} new geo before after kept checks wider part more late early only own first some other debug.DeviceFault fails = rose_before (view_state old).faults (view_state mid).faults (view_state new).faults only.later fails
  answer_fails new geo before after kept checks wider part more late early only own first some other debug.OutputFault fails = (fails.0, λ v shows. some v shows (fails.1 v (still_shows only shows)))
  answer_fails new geo before after kept checks wider part more late early only own first some other debug.Absent fails = absurd fails
  answer_fails new geo before after kept checks wider part more late early only own first some other debug.WrongKind fails = (fails.0, other fails.1)
  answer_fails new geo before after kept checks wider part more late early only own first some other (debug.Bad check b) fails =
      (fails.0, record { own = own check fails.1.own; first = λ v shows. first v shows check b (fails.1.first v (still_shows only shows)) })

  -- ---- of a query
  -- its path leads nowhere, and so nothing is put
  path_fault : (old new : View D N g) (geo : Geo) (query : PathQuery) (text : List ℕ) (before : SinkState) (kept : Type 0) → kept → text ≡ path_of query → (fault : PathFault) → PathFails old new (OnPath old geo text) fault
      → (given : DebugFault) → IsOfPath fault given → AnswerFailsAt (Shows old geo) (view_state old) (view_state new) (At query) before before kept given
  path_fault old new geo query text before kept none is path.NoMemory fails given same = subst (AnswerFailsAt (Shows old geo) (view_state old) (view_state new) (At query) before before kept) (sym same) tt
  path_fault old new geo query text before kept none is path.DeviceFault fails given same = subst (AnswerFailsAt (Shows old geo) (view_state old) (view_state new) (At query) before before kept) (sym same) fails
  path_fault old new geo query text before kept none is (path.Bad check b) fails given same =
      subst (AnswerFailsAt (Shows old geo) (view_state old) (view_state new) (At query) before before kept) (sym same)
      (none, λ v shows start names begins. inl (fails.1 v shows start names (same_beginning query v geo text start names shows.numbers is begins)))
  path_fault old new geo query text before kept none is path.Absent fails given same =
      subst (AnswerFailsAt (Shows old geo) (view_state old) (view_state new) (At query) before before kept) (sym same)
      (none, λ v shows start names begins. fails v shows start names (same_beginning query v geo text start names shows.numbers is begins))
  path_fault old new geo query text before kept none is path.WrongKind fails given same =
      subst (AnswerFailsAt (Shows old geo) (view_state old) (view_state new) (At query) before before kept) (sym same)
      (none, λ v shows start names begins. inl (fails v shows start names (same_beginning query v geo text start names shows.numbers is begins)))

  pub path_fails : {A : Type 0} (r : Result A DebugFault) (old new : View D N g) (geo : Geo) (query : PathQuery) (text : List ℕ) (before : SinkState) (kept : Type 0) → kept → text ≡ path_of query
      → (fault : PathFault) → PathFails old new (OnPath old geo text) fault → IsErrAnd r (IsOfPath fault) → IfErr r (AnswerFailsAt (Shows old geo) (view_state old) (view_state new) (At query) before before kept)
  path_fails (Ok x) old new geo query text before kept none is fault fails same = tt
  path_fails (Err given) old new geo query text before kept none is fault fails same = path_fault old new geo query text before kept none is fault fails given same

  -- the inode that its path leads to has no answer
  pub end_fails : {old mid : View D N g} (new : View D N g) (geo : Geo) (query : PathQuery) (before after : SinkState) (kept : Type 0) (b : ℕ) → OnlyReads old mid → ((v : Volume) → Shows old geo v → PathLeads query v b) → (fault : DebugFault)
      → AnswerFails mid new geo (query_checks query b) before after kept (λ v. AnswersSome query v b before after) ((v : Volume) → Shows mid geo v → IsOfOtherKind query v b) fault
      → AnswerFailsAt (Shows old geo) (view_state old) (view_state new) (At query) before after kept fault
  end_fails new geo query before after kept b only leads debug.NoMemory fails = tt
  end_fails {old} {mid} new geo query before after kept b only leads debug.DeviceFault fails = rose_before (view_state old).faults (view_state mid).faults (view_state new).faults only.later fails
  end_fails new geo query before after kept b only leads debug.OutputFault fails =
      (fails.0, λ v shows. let some = fails.1 v (still_shows only shows) in (text_of query v b, (answer_text query v b (leads v shows) some.answered, some.some)))
  end_fails new geo query before after kept b only leads debug.Absent fails = absurd fails
  end_fails new geo query before after kept b only leads debug.WrongKind fails = (fails.0, λ v shows start names begins. inr (b, (leads v shows start names begins, fails.1 v (still_shows only shows))))
  end_fails new geo query before after kept b only leads (debug.Bad check at) fails = (fails.0, λ v shows start names begins. inr (b, (leads v shows start names begins, fails.1.first v (still_shows only shows))))

module _ {D : Type 0} {N : ℕ} {g : disk.Ghosts D} (old new : View D N g) (geo : Geo) (query : Query) (before : SinkState) (kept : Type 0) (none : kept) where
  skeleton_fault : (fault : ReadFault) → ReadFails old new geo skeleton_checks fault → (given : DebugFault) → IsOfRead fault given → QueryFails (Shows old geo) (view_state old) (view_state new) query before before kept given
  skeleton_fault read.NoMemory fails given same = subst (QueryFails (Shows old geo) (view_state old) (view_state new) query before before kept) (sym same) tt
  skeleton_fault read.DeviceFault fails given same = subst (QueryFails (Shows old geo) (view_state old) (view_state new) query before before kept) (sym same) fails
  skeleton_fault (read.Bad check b) fails given same = subst (QueryFails (Shows old geo) (view_state old) (view_state new) query before before kept) (sym same) (none, λ v shows. inl (fails.first v shows))

  -- a check of the skeleton fails
  pub judge_fails : {A : Type 0} (r : Result A DebugFault) (fault : ReadFault) → ReadFails old new geo skeleton_checks fault → IsErrAnd r (IsOfRead fault) → IfErr r (QueryFails (Shows old geo) (view_state old) (view_state new) query before before kept)
  judge_fails (Ok x) fault fails same = tt
  judge_fails (Err given) fault fails same = skeleton_fault fault fails given same

-- the path is followed where the skeleton is sound, on a device that may have failed before
pub skeleton_fails : (Was Is : Volume → Type 0) (old mid new : DiskState) (query : Query) (before after : SinkState) (kept : Type 0) → old.faults ≤ mid.faults → ((v : Volume) → Is v → Was v) → ((v : Volume) → Is v → HasSkeleton v)
    → (fault : DebugFault) → AnswerFailsAt Was mid new query before after kept fault → QueryFails Is old new query before after kept fault
skeleton_fails Was Is old mid new query before after kept later was skeleton debug.NoMemory fails = tt
skeleton_fails Was Is old mid new query before after kept later was skeleton debug.DeviceFault fails = rose_before old.faults mid.faults new.faults later fails
skeleton_fails Was Is old mid new query before after kept later was skeleton debug.OutputFault fails = (fails.0, λ v is. (skeleton v is, fails.1 v (was v is)))
skeleton_fails Was Is old mid new query before after kept later was skeleton debug.Absent fails = (fails.0, λ v is. (skeleton v is, fails.1 v (was v is)))
skeleton_fails Was Is old mid new query before after kept later was skeleton debug.WrongKind fails = (fails.0, λ v is. (skeleton v is, fails.1 v (was v is)))
skeleton_fails Was Is old mid new query before after kept later was skeleton (debug.Bad check b) fails = (fails.0, λ v is. inr (skeleton v is, fails.1 v (was v is)))

-- where the volumes that are meant now are among those that were, and the device may have failed before
pub query_fails : (Was Is : Volume → Type 0) (old mid new : DiskState) (query : Query) (before after : SinkState) (kept : Type 0) → old.faults ≤ mid.faults → ((v : Volume) → Is v → Was v)
    → (fault : DebugFault) → QueryFails Was mid new query before after kept fault → QueryFails Is old new query before after kept fault
query_fails Was Is old mid new query before after kept later was debug.NoMemory fails = tt
query_fails Was Is old mid new query before after kept later was debug.DeviceFault fails = rose_before old.faults mid.faults new.faults later fails
query_fails Was Is old mid new query before after kept later was debug.OutputFault fails = (fails.0, λ v is. fails.1 v (was v is))
query_fails Was Is old mid new query before after kept later was debug.Absent fails = (fails.0, λ v is. fails.1 v (was v is))
query_fails Was Is old mid new query before after kept later was debug.WrongKind fails = (fails.0, λ v is. fails.1 v (was v is))
query_fails Was Is old mid new query before after kept later was (debug.Bad check b) fails = (fails.0, λ v is. fails.1 v (was v is))
