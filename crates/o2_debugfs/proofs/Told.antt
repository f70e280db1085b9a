-- Which cause answers a query.
use Rattle.std.proofs.Common.{◌≡◌, ◌⊎◌, inl, inr, ⊎_elim, Some, None, refl}
use Rattle.o2_disk.specs.Device.{DiskState, Rose}
use Rattle.o2_disk.specs.Output.{SinkState, FailsLast}
use Rattle.o2_model.specs.Image.{Image}
use Rattle.o2_model.specs.Features.{unsupported_feature}
use Rattle.o2_model.specs.Volume.{Volume, opened}
use Rattle.o2_skeleton.specs.Skeleton.{HasSkeleton}
use Rattle.o2_cause.specs.Causes.{IsDone, IsRefusal}
use Rattle.o2_cause.specs.declared.cause.Cause.TheVariants.{Absent, WrongKind, DeviceFault}
use Rattle.o2_debug.specs.Queries.{AnswersAt, AnswersSomeAt, IsAbsent, IsOfWrongKind}
use Rattle.o2_debug.specs.Fails.{QueryFails}
use Rattle.o2_debug.specs.declared.fault.DebugFault.{DebugFault}
use Rattle.o2_debug.specs.declared.fault.DebugFault.TheVariants as debug
use Rattle.o2_debug.specs.declared.query.Query.{Query}
use Rattle.o2_debug.specs.declared.query.Query.TheVariants.{Stats, SlotMap, At}
use Rattle.o2_debugfs.specs.Replies.{ComesFor, HasReport, TakesReport, TakesSomeOfReport, BeginsReport, with_path, cause_of_query}

-- ---- by a path, which only a query that names one has
module _ (I : Image) (v : Volume) (is : opened I ≡ Some v) (supported : unsupported_feature I ≡ None) where
  comes_absent : (query : Query) → HasSkeleton v × IsAbsent query v → ComesFor query I (with_path (λ path. Absent path) query)
  comes_absent Stats fails = absurd fails.1
  comes_absent SlotMap fails = absurd fails.1
  comes_absent (At query) fails = (refl, record { volume = v; is = is; supported = supported; holds = fails })

  comes_wrong_kind : (query : Query) → HasSkeleton v × IsOfWrongKind query v → ComesFor query I (with_path (λ path. WrongKind path) query)
  comes_wrong_kind Stats fails = absurd fails.1
  comes_wrong_kind SlotMap fails = absurd fails.1
  comes_wrong_kind (At query) fails = (refl, record { volume = v; is = is; supported = supported; holds = fails })

-- a query that is refused for its path is not done, and not refused for the device
path_not_done : (query : Query) → (IsDone (with_path (λ path. Absent path) query) → ⊥) × (IsDone (with_path (λ path. WrongKind path) query) → ⊥)
path_not_done Stats = (λ done. cc done, λ done. cc done)
path_not_done SlotMap = (λ done. cc done, λ done. cc done)
path_not_done (At query) = (λ done. cc done, λ done. cc done)

path_no_device : (query : Query) → (with_path (λ path. Absent path) query ≡ DeviceFault → ⊥) × (with_path (λ path. WrongKind path) query ≡ DeviceFault → ⊥)
path_no_device Stats = (λ is. cc is, λ is. cc is)
path_no_device SlotMap = (λ is. cc is, λ is. cc is)
path_no_device (At query) = (λ is. cc is, λ is. cc is)

module _ (query : Query) (I : Image) (v : Volume) (is : opened I ≡ Some v) (supported : unsupported_feature I ≡ None) (a b : SinkState) where
  pub takes_report : HasSkeleton v × AnswersAt query v a b → TakesReport query I a b
  takes_report answers = (answers.1.0, (record { volume = v; is = is; supported = supported; holds = (answers.0, answers.1.1.0) }, answers.1.1.1))

  pub some_of_report : HasSkeleton v × AnswersSomeAt query v a b → TakesSomeOfReport query I a b
  some_of_report answers = (answers.1.0, (record { volume = v; is = is; supported = supported; holds = (answers.0, answers.1.1.0) }, answers.1.1.1))

  has_report : HasSkeleton v × AnswersSomeAt query v a b → HasReport query I
  has_report some = let part = some_of_report some in (part.0, part.1.0)

  pub begins_report : (b ≡ a) ⊎ (HasSkeleton v × AnswersSomeAt query v a b) → BeginsReport query I a b
  begins_report put = ⊎_elim (λ nothing. inl nothing) (λ some. inr (some_of_report some)) put

  pub comes_fault : (Seen : Volume → Type 0) (old new : DiskState) (kept : Type 0) → Seen v → (fault : DebugFault) → QueryFails Seen old new query a b kept fault → ComesFor query I (cause_of_query query fault)
  comes_fault Seen old new kept seen debug.NoMemory fails = tt
  comes_fault Seen old new kept seen debug.DeviceFault fails = tt
  comes_fault Seen old new kept seen debug.OutputFault fails = has_report (fails.1 v seen)
  comes_fault Seen old new kept seen debug.Absent fails = comes_absent I v is supported query (fails.1 v seen)
  comes_fault Seen old new kept seen debug.WrongKind fails = comes_wrong_kind I v is supported query (fails.1 v seen)
  comes_fault Seen old new kept seen (debug.Bad check block) fails = record { volume = v; is = is; supported = supported; holds = fails.1 v seen }

module _ (Seen : Volume → Type 0) (old new : DiskState) (query : Query) (a b : SinkState) (kept : Type 0) where
  -- only a fault of the output leaves a query done
  pub done_by_output : (fault : DebugFault) → IsDone (cause_of_query query fault) → QueryFails Seen old new query a b kept fault → FailsLast a b × ((v : Volume) → Seen v → HasSkeleton v × AnswersSomeAt query v a b)
  done_by_output debug.OutputFault done fails = fails
  done_by_output debug.NoMemory done fails = absurd (let none : ⊥ = cc done in none)
  done_by_output debug.DeviceFault done fails = absurd (let none : ⊥ = cc done in none)
  done_by_output debug.Absent done fails = absurd ((path_not_done query).0 done)
  done_by_output debug.WrongKind done fails = absurd ((path_not_done query).1 done)
  done_by_output (debug.Bad check block) done fails = absurd (let none : ⊥ = cc done in none)

  -- a query that is refused puts nothing
  pub refused_unasked : (fault : DebugFault) → IsRefusal (cause_of_query query fault) → QueryFails Seen old new query a b kept fault → kept
  refused_unasked debug.OutputFault refused fails = absurd (let none : ⊥ = cc refused in none)
  refused_unasked debug.NoMemory refused fails = absurd (let none : ⊥ = cc refused in none)
  refused_unasked debug.DeviceFault refused fails = absurd (let none : ⊥ = cc refused in none)
  refused_unasked debug.Absent refused fails = fails.0
  refused_unasked debug.WrongKind refused fails = fails.0
  refused_unasked (debug.Bad check block) refused fails = fails.0

  pub rose_by_device : (fault : DebugFault) → cause_of_query query fault ≡ DeviceFault → QueryFails Seen old new query a b kept fault → Rose old.faults new.faults
  rose_by_device debug.OutputFault is fails = absurd (let none : ⊥ = cc is in none)
  rose_by_device debug.NoMemory is fails = absurd (let none : ⊥ = cc is in none)
  rose_by_device debug.DeviceFault is fails = fails
  rose_by_device debug.Absent is fails = absurd ((path_no_device query).0 is)
  rose_by_device debug.WrongKind is fails = absurd ((path_no_device query).1 is)
  rose_by_device (debug.Bad check block) is fails = absurd (let none : ⊥ = cc is in none)
