-- What is wrong with an inode, by what its reader tells.
use Rattle.std.proofs.Common.{◌≡◌, inl, inr, ℕ, true, false, [], refl, sym, subst}
use Rattle.std.specs.Prelude.{Option, Some, None, IsSome, is_some}
use Rattle.std.specs.Option.{option_map_or}
use Rattle.o2_disk.specs.declared.disk.Disk as disk
use Rattle.o2_ondisk.specs.Kinds.{kind_of_mode}
use Rattle.o2_ondisk.specs.declared.dinode.Dinode.{Dinode}
use Rattle.o2_ondisk.specs.declared.kind.Kind.{Kind}
use Rattle.o2_model.specs.declared.check.Check.TheVariants as checks
use Rattle.o2_model.specs.declared.geo.Geo.{Geo}
use Rattle.o2_model.specs.Faults.{fails_unless}
use Rattle.o2_model.specs.Volume.{Volume, dinode}
use Rattle.o2_model.specs.Inodes.{kind}
use Rattle.o2_model.specs.Checks.InodeKind.{has_kind, inode_kind_faults}
use Rattle.o2_view.specs.OwnChecks.{NoneFails, FailsFirst, ReadFails, ReadFailsOf}
use Rattle.o2_view.specs.Views.{view_state, Shows, OnlyReads}
use Rattle.o2_view.specs.declared.fault.ReadFault.{ReadFault}
use Rattle.o2_view.specs.declared.fault.ReadFault.TheVariants as read
use Rattle.o2_view.specs.declared.view.View.{View}
use Rattle.o2_view.proofs.Faults.{rose_before}
use Rattle.o2_dir.specs.Fails.{data_checks}
use Rattle.o2_dir.specs.InodeReadings.{TellsSound}
use Rattle.o2_dir.specs.declared.inode_reading.InodeReading.{InodeReading}
use Rattle.o2_dir.proofs.Whole.{fails_there}
use Rattle.o2_debug.specs.Objects.{object_checks}

-- ---- kinds
-- an inode of some kind does not fail for it
of_some_kind : (said : Option Kind) (b : ℕ) → IsSome said → fails_unless b (option_map_or (λ which. true) said false) ≡ []
of_some_kind (Some which) b some = refl
of_some_kind None b some = absurd (let none : ⊥ = cc some in none)

has_kind_of : (v : Volume) (b : ℕ) → IsSome (kind v b) → inode_kind_faults v b ≡ []
has_kind_of v b some = of_some_kind (kind v b) b some

-- an inode of none does
of_no_kind : (said : Option Kind) → is_some said ≡ false → option_map_or (λ which. true) said false ≡ false
of_no_kind None none = refl
of_no_kind (Some which) none = absurd (let some : ⊥ = cc none in some)

pub kind_fails : (v : Volume) (b : ℕ) (d : Dinode) → d ≡ dinode v b → is_some (kind_of_mode d.mode) ≡ false → FailsFirst (object_checks b) v checks.InodeKind b
kind_fails v b d is none =
    let told : is_some (kind v b) ≡ false = subst (λ (e : Dinode). is_some (kind_of_mode e.mode) ≡ false) is none in
    inl (refl, fails_there b (has_kind v b) (of_no_kind (kind v b) told))

-- ---- an inode of some kind, by its reading
pub some_kind : (v : Volume) (b : ℕ) (d : Dinode) → d ≡ dinode v b → IsSome (kind_of_mode d.mode) → IsSome (kind v b)
some_kind v b d is some = subst (λ (e : Dinode). IsSome (kind_of_mode e.mode)) is some

pub sound_reading : (v : Volume) (b : ℕ) (reading : InodeReading) → IsSome (kind v b) → TellsSound v b reading → NoneFails (object_checks b) v
sound_reading v b reading some tells = (has_kind_of v b some, (tells.read.sound, (tells.size, tt)))

-- by the number that the reading itself tells
pub of_own_number : (v : Volume) (b : ℕ) (reading : InodeReading) → TellsSound v b reading → TellsSound v reading.inode reading
of_own_number v b reading tells = subst (λ (n : ℕ). TellsSound v n reading) (sym tells.number) tells

-- what fails for its bytes is the first that fails for it
pub reading_fails : {D : Type 0} {N : ℕ} {g : disk.Ghosts D} {old mid : View D N g} (new : View D N g) (geo : Geo) (b : ℕ) {Of : Volume → Type 0} → OnlyReads old mid → ((v : Volume) → Shows old geo v → Of v)
    → ((v : Volume) → Shows old geo v → IsSome (kind v b)) → (fault : ReadFault) → ReadFailsOf Of mid new (data_checks b) fault → ReadFails old new geo (object_checks b) fault
reading_fails new geo b only among some read.NoMemory fails = tt
reading_fails {D} {N} {g} {old} {mid} new geo b only among some read.DeviceFault fails = rose_before (view_state old).faults (view_state mid).faults (view_state new).faults only.later fails
reading_fails new geo b only among some (read.Bad check at) fails = record { own = inr fails.own; first = λ v shows. inr (has_kind_of v b (some v shows), fails.first v (among v shows)) }
