-- What a run that gives a label promises.
use Rattle.std.specs.Prelude.{◌≡◌, ◌≢◌, ◌⊎◌, List, ℕ, codes, Some}
use Rattle.o2_disk.specs.Device.{DiskState, ReadsOnly, Rose, IsAttachedOnce, IsAttachedAtMostOnce, IsSettled, LeavesOnly, Told}
use Rattle.o2_disk.specs.Output.{SinkState, FailsLast, StopsAtFault}
use Rattle.o2_disk.specs.declared.disk.How.TheVariants.{ReadWrite}
use Rattle.o2_model.specs.Image.{Image}
use Rattle.o2_model.specs.Label.{relabelled}
use Rattle.o2_view.specs.declared.which.Which.{Which}
use Rattle.o2_cause.specs.Causes.{cause_line, class_of, IsDone, IsRefusal}
use Rattle.o2_cause.specs.Taken.{Takes, TakesSome}
use Rattle.o2_cause.specs.declared.class.Class.{Class}
use Rattle.o2_cause.specs.declared.class.Class.TheVariants as class
use Rattle.o2_cause.specs.declared.cause.Cause.{Cause}
use Rattle.o2_cause.specs.declared.cause.Cause.TheVariants.{Fine, Later, NotOcfs2, Range, DeviceFault, OutputFault, NoMemory}
use Rattle.o2_tunefs.specs.Answer.{label_refusal, refusal_of, IsAnswer}

-- the causes by which a run of tunefs ends, whatever the device tells
abbrev pub IsOfTunefs : Cause → Type 0
IsOfTunefs Fine = Unit {0}
IsOfTunefs Later = Unit {0}
IsOfTunefs NotOcfs2 = Unit {0}
IsOfTunefs (Range which value) = Unit {0}
IsOfTunefs DeviceFault = Unit {0}
IsOfTunefs OutputFault = Unit {0}
IsOfTunefs NoMemory = Unit {0}
IsOfTunefs _ = ⊥

-- what is printed where all was done
abbrev pub done_text : List ℕ
done_text = codes "tunefs: done\n"

-- one of two texts, by a cause's class
abbrev pub text_for : Class → List ℕ → List ℕ → List ℕ
text_for class.Done done line = done
text_for class.Refusal done line = line
text_for class.Fault done line = line

-- what is printed: that tunefs is done, and where the output failed what would have been printed without that; or the cause's line
abbrev pub reply_text : Cause → List ℕ
reply_text cause = text_for (class_of cause) done_text (cause_line (codes "tunefs") cause)

-- A run gave the volume on the device of this name this label, or it refused, and ended by this cause. The device was old
-- and is new; the sink was before and is after.
pub record LabelRun (label name : List ℕ) (old new : DiskState) (before after : SinkState) (cause : Cause) : Type 0 where
  -- it is answered by the first refusal that stands, or is fine; else the device failed, or memory ran out
  pub answer : (I : Image) → old.content ≡ Some I → IsAnswer (refusal_of label I) cause
  -- only a label that is too long is out of range
  pub range : (which : Which) (value : ℕ) → cause ≡ Range which value → label_refusal label ≡ Some cause
  -- it ends by causes of its own
  pub causes : IsOfTunefs cause
  -- the device is attached once for writing, under the name that is given
  pub named : cause ≢ NoMemory → IsAttachedOnce name ReadWrite old new
  -- where memory runs out maybe not at all
  pub at_most : IsAttachedAtMostOnce name ReadWrite old new
  -- a label that was given stands, also where the output failed
  pub done : IsDone cause → Told (λ I J. J ≡ relabelled label I) old new
  -- however the run ends, a read gives the volume of before or the one with the label
  pub either : Told (λ I J. (J ≡ I) ⊎ (J ≡ relabelled label I)) old new
  -- a label that is there already is not written again
  pub idle : (I : Image) → old.content ≡ Some I → relabelled label I ≡ I → ReadsOnly old new
  -- where nothing was pending, a crash at any moment leaves the volume of before or the one with the label
  pub any_moment : (I : Image) → IsSettled old I → LeavesOnly old new (λ X. (X ≡ I) ⊎ (X ≡ relabelled label I))
  -- and once the label is given, no crash leaves anything but the latter
  pub settled : IsDone cause → (I : Image) → IsSettled old I → IsSettled new (relabelled label I)
  -- a refusal writes nothing
  pub refused : IsRefusal cause → ReadsOnly old new
  -- a device fault comes with a fault that the device has told
  pub fault : cause ≡ DeviceFault → Rose old.faults new.faults
  -- the sink takes that tunefs is done, or the cause's line
  pub output : (Rose before.faults after.faults → ⊥) → Takes before after (reply_text cause)
  -- and its first bytes where it fails
  pub front : TakesSome before after (reply_text cause)
  -- nothing is put behind the sink's first fault
  pub stops : StopsAtFault before after
  -- which stands in place of Fine alone
  pub fine : cause ≡ Fine → after.faults ≡ before.faults
  pub output_fault : cause ≡ OutputFault → FailsLast before after
