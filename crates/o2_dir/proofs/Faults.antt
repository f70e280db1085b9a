-- The fault of one call as that of the call around it.
use Rattle.std.proofs.Common.{◌≡◌, inl, inr, ℕ, true, List, refl, sym, subst, Result, Ok, Err}
use Rattle.std.specs.Prelude.{IfOk}
use Rattle.std.specs.Result.{IfErr, IsErrAnd}
use Rattle.o2_disk.specs.declared.disk.Disk as disk
use Rattle.o2_model.specs.Volume.{Volume}
use Rattle.o2_model.specs.Inodes.{is_directory}
use Rattle.o2_model.specs.declared.check.Check.{Check}
use Rattle.o2_model.specs.declared.geo.Geo.{Geo}
use Rattle.o2_view.specs.OwnChecks.{OwnCheck, IsOwn, IsBadOf}
use Rattle.o2_view.specs.Views.{view_state, Shows, OnlyReads}
use Rattle.o2_view.specs.declared.view.View.{View}
use Rattle.o2_view.proofs.Faults.{rose_before, bad_of}
use Rattle.o2_dir.specs.Fails.{directory_checks, DirFailsOf, HasNoneOf}
use Rattle.o2_dir.specs.Faults.{IsPathOfDir}
use Rattle.o2_dir.specs.Paths.{Lacks, IsNoDirectory, FailsAt, IsOfPath, AtName, PathFails}
use Rattle.o2_dir.specs.declared.fault.DirFault.{DirFault}
use Rattle.o2_dir.specs.declared.fault.DirFault.TheVariants as dir
use Rattle.o2_dir.specs.declared.fault.PathFault.{PathFault}
use Rattle.o2_dir.specs.declared.fault.PathFault.TheVariants as path

-- two clauses of an answer together
pub both_ok : {T E : Type 0} (r : Result T E) (P Q R : T → Type 0) → ((x : T) → P x → Q x → R x) → IfOk r P → IfOk r Q → IfOk r R
both_ok (Ok x) P Q R both p q = both x p q
both_ok (Err e) P Q R both p q = tt

-- a check of a directory is one of those that fail on a path
of_path : (d : ℕ) (check : Check) → IsOwn (directory_checks d) check → IsOfPath check
of_path d check (inl extent) = inl extent
of_path d check (inr (inl size)) = inr (inl size)
of_path d check (inr (inr (inl blocks))) = inr (inr (inl blocks))
of_path d check (inr (inr (inr none))) = absurd none

module _ {D : Type 0} {N : ℕ} {g : disk.Ghosts D} where
  -- ---- of a directory
  -- a fault that is known only by its clauses
  dir_fault : (Of : Volume → Type 0) (old new : View D N g) (checks : List OwnCheck) (absent : Type 0) (fault : DirFault) → (fault ≡ dir.DeviceFault → ⊥) → (fault ≡ dir.Absent → ⊥)
      → ((check : Check) (b : ℕ) → fault ≡ dir.Bad check b → IsBadOf Of checks check b) → DirFailsOf Of old new checks absent fault
  dir_fault Of old new checks absent dir.NoMemory device present bad = tt
  dir_fault Of old new checks absent dir.DeviceFault device present bad = absurd (device refl)
  dir_fault Of old new checks absent (dir.Bad check b) device present bad = bad check b refl
  dir_fault Of old new checks absent dir.Absent device present bad = absurd (present refl)

  -- the same of a call that calls no device and looks no name up
  pub fails_by : {A : Type 0} (r : Result A DirFault) (Of : Volume → Type 0) (old new : View D N g) (checks : List OwnCheck) (absent : Type 0) → IfErr r (λ fault. fault ≡ dir.DeviceFault → ⊥) → IfErr r (λ fault. fault ≡ dir.Absent → ⊥)
      → IfErr r (λ fault. (check : Check) (b : ℕ) → fault ≡ dir.Bad check b → IsBadOf Of checks check b) → IfErr r (DirFailsOf Of old new checks absent)
  fails_by (Ok x) Of old new checks absent device present bad = tt
  fails_by (Err fault) Of old new checks absent device present bad = dir_fault Of old new checks absent fault device present bad

  fault_of : {old mid : View D N g} (new : View D N g) (checks : List OwnCheck) (late early : Type 0) {Few Many : Volume → Type 0} → OnlyReads old mid → ((v : Volume) → Few v → Many v) → (late → early)
      → (fault : DirFault) → DirFailsOf Many mid new checks late fault → DirFailsOf Few old new checks early fault
  fault_of {old} {mid} new checks late early {Few} {Many} only among absent dir.NoMemory fails = tt
  fault_of {old} {mid} new checks late early {Few} {Many} only among absent dir.DeviceFault fails = rose_before (view_state old).faults (view_state mid).faults (view_state new).faults only.later fails
  fault_of {old} {mid} new checks late early {Few} {Many} only among absent (dir.Bad check b) fails = bad_of among fails
  fault_of {old} {mid} new checks late early {Few} {Many} only among absent dir.Absent fails = absent fails

  -- of a call behind one that only reads
  pub fails_of : {A : Type 0} (r : Result A DirFault) {old mid : View D N g} (new : View D N g) (checks : List OwnCheck) (late early : Type 0) {Few Many : Volume → Type 0} → OnlyReads old mid → ((v : Volume) → Few v → Many v)
      → (late → early) → IfErr r (DirFailsOf Many mid new checks late) → IfErr r (DirFailsOf Few old new checks early)
  fails_of (Ok x) {old} {mid} new checks late early {Few} {Many} only among absent fails = tt
  fails_of (Err fault) {old} {mid} new checks late early {Few} {Many} only among absent fails = fault_of new checks late early only among absent fault fails

  -- ---- of a path
  -- the fault of a directory as that of a step from it, which begins with a call that only reads
  step_fault : {old mid : View D N g} (new : View D N g) (geo : Geo) (d : ℕ) (name : List ℕ) {Of : Volume → Type 0} → OnlyReads old mid → ((v : Volume) → Shows old geo v → Of v) → ((v : Volume) → Shows old geo v → is_directory v d ≡ true)
      → (fault : DirFault) → DirFailsOf Of mid new (directory_checks d) (HasNoneOf Of d name) fault → (given : PathFault) → IsPathOfDir fault given → PathFails old new (AtName old geo d name) given
  step_fault {old} {mid} new geo d name {Of} only among is dir.NoMemory fails given same = subst (PathFails old new (AtName old geo d name)) (sym same) tt
  step_fault {old} {mid} new geo d name {Of} only among is dir.DeviceFault fails given same =
      subst (PathFails old new (AtName old geo d name)) (sym same) (rose_before (view_state old).faults (view_state mid).faults (view_state new).faults only.later fails)
  step_fault {old} {mid} new geo d name {Of} only among is (dir.Bad check b) fails given same =
      subst (PathFails old new (AtName old geo d name)) (sym same) (of_path d check fails.own, λ v shows. inl (is v shows, fails.first v (among v shows)))
  step_fault {old} {mid} new geo d name {Of} only among is dir.Absent fails given same =
      subst (PathFails old new (AtName old geo d name)) (sym same) (λ v shows. let none = fails v (among v shows) in record { directory = is v shows; sound = none.0; none = none.1 })

  pub step_fails : {A : Type 0} (r : Result A PathFault) {old mid : View D N g} (new : View D N g) (geo : Geo) (d : ℕ) (name : List ℕ) {Of : Volume → Type 0} → OnlyReads old mid → ((v : Volume) → Shows old geo v → Of v)
      → ((v : Volume) → Shows old geo v → is_directory v d ≡ true) → (fault : DirFault) → DirFailsOf Of mid new (directory_checks d) (HasNoneOf Of d name) fault → IsErrAnd r (IsPathOfDir fault) → IfErr r (PathFails old new (AtName old geo d name))
  step_fails (Ok x) {old} {mid} new geo d name {Of} only among is fault fails same = tt
  step_fails (Err given) {old} {mid} new geo d name {Of} only among is fault fails same = step_fault new geo d name only among is fault fails given same

  -- the fault of a part of a path as that of the whole
  pub path_fails : {old mid : View D N g} (new : View D N g) (Part Whole : (Volume → ℕ → List ℕ → Type 0) → Type 0) → OnlyReads old mid → ((Holds : Volume → ℕ → List ℕ → Type 0) → Part Holds → Whole Holds)
      → (fault : PathFault) → PathFails mid new Part fault → PathFails old new Whole fault
  path_fails {old} {mid} new Part Whole only on path.NoMemory fails = tt
  path_fails {old} {mid} new Part Whole only on path.DeviceFault fails = rose_before (view_state old).faults (view_state mid).faults (view_state new).faults only.later fails
  path_fails {old} {mid} new Part Whole only on (path.Bad check b) fails = (fails.0, on (FailsAt check b) fails.1)
  path_fails {old} {mid} new Part Whole only on path.Absent fails = on Lacks fails
  path_fails {old} {mid} new Part Whole only on path.WrongKind fails = on IsNoDirectory fails
