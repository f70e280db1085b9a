-- How a run that gives a label ends.
use Rattle.std.proofs.Common.{◌≡◌, ◌≢◌, ◌⊎◌, inl, inr, ℕ, List, codes, Option, Some, None, refl, sym, ap, subst}
use Rattle.o2_disk.specs.Device.{DiskState, ReadsOnly, Rose, IsAttachedOnce, IsAttachedAtMostOnce, IsSettled, LeavesOnly, Told}
use Rattle.o2_disk.specs.Output.{SinkState, FailsLast, StopsAtFault}
use Rattle.o2_disk.specs.declared.disk.How.TheVariants.{ReadWrite}
use Rattle.o2_disk.proofs.Moments.{reads_none, leaves_itself}
use Rattle.o2_disk.proofs.Sinks.{fails_rose}
use Rattle.o2_model.specs.Image.{Image}
use Rattle.o2_model.specs.Label.{relabelled}
use Rattle.o2_view.specs.declared.which.Which.{Which}
use Rattle.o2_cause.specs.Causes.{cause_line, class_of, IsDone, IsRefusal, EndsBy}
use Rattle.o2_cause.specs.Taken.{Takes, TakesSome}
use Rattle.o2_cause.specs.declared.class.Class.{Class}
use Rattle.o2_cause.specs.declared.class.Class.TheVariants as class
use Rattle.o2_cause.specs.declared.cause.Cause.{Cause}
use Rattle.o2_cause.specs.declared.cause.Cause.TheVariants.{Fine, Range, DeviceFault, OutputFault, NoMemory}
use Rattle.o2_tunefs.specs.Answer.{label_refusal, refusal_of, IsCauseFor, IsAnswer}
use Rattle.o2_tunefs.specs.LabelRun.{LabelRun, IsOfTunefs, done_text, text_for, reply_text}

-- the text of a cause that is not done is its line
line_for : (c : Class) (done line : List ℕ) → (c ≡ class.Done → ⊥) → text_for c done line ≡ line
line_for class.Done done line other = absurd (other refl)
line_for class.Refusal done line other = refl
line_for class.Fault done line other = refl

abbrev line_of : Cause → List ℕ
line_of cause = cause_line (codes "tunefs") cause

reply_is_line : (cause : Cause) → (IsDone cause → ⊥) → line_of cause ≡ reply_text cause
reply_is_line cause other = sym (line_for (class_of cause) done_text (line_of cause) other)

-- ---- the answer
answer_of : (refusal : Option Cause) (cause : Cause) → IsCauseFor refusal cause → IsAnswer refusal cause
answer_of None cause (inl first) = absurd (let none : ⊥ = cc first in none)
answer_of None cause (inr rest) = inr (inr rest)
answer_of (Some refusal) cause (inl first) = inl (let same : cause ≡ refusal = cc first in same)
answer_of (Some refusal) cause (inr rest) = inr rest

-- ---- the end
-- the sink took the line of this cause, or its first bytes where it failed
abbrev pub Prints : SinkState → SinkState → Cause → Type 0
Prints before after cause = ((Rose before.faults after.faults → ⊥) → Takes before after (line_of cause)) × TakesSome before after (line_of cause)

module _ (label name : List ℕ) (old new : DiskState) (before after : SinkState) (stops : StopsAtFault before after) where
  -- memory ran out
  pub ends_by_memory : IsAttachedAtMostOnce name ReadWrite old new → Told (λ I J. (J ≡ I) ⊎ (J ≡ relabelled label I)) old new
      → ((I : Image) → old.content ≡ Some I → relabelled label I ≡ I → ReadsOnly old new)
      → ((I : Image) → IsSettled old I → LeavesOnly old new (λ X. (X ≡ I) ⊎ (X ≡ relabelled label I)))
      → Prints before after NoMemory → LabelRun label name old new before after NoMemory
  ends_by_memory at_most either idle any_moment prints = record {
    answer = λ I told. answer_of (refusal_of label I) NoMemory (inr (inr refl));
    range = λ which value is. absurd (let none : ⊥ = cc is in none);
    causes = tt;
    named = λ other. absurd (other refl);
    at_most = at_most;
    done = λ done. absurd (let none : ⊥ = cc done in none);
    either = either;
    idle = idle;
    any_moment = any_moment;
    settled = λ done. absurd (let none : ⊥ = cc done in none);
    refused = λ refused. absurd (let none : ⊥ = cc refused in none);
    fault = λ is. absurd (let none : ⊥ = cc is in none);
    output = prints.0;
    front = prints.1;
    stops = stops;
    fine = λ is. absurd (let none : ⊥ = cc is in none);
    output_fault = λ is. absurd (let none : ⊥ = cc is in none);
  }

  -- the label was not given
  module _ (cause : Cause) (not_done : IsDone cause → ⊥)
      (answer : (I : Image) → old.content ≡ Some I → IsCauseFor (refusal_of label I) cause)
      (range : (which : Which) (value : ℕ) → cause ≡ Range which value → label_refusal label ≡ Some cause)
      (causes : IsOfTunefs cause)
      (named : cause ≢ NoMemory → IsAttachedOnce name ReadWrite old new)
      (at_most : IsAttachedAtMostOnce name ReadWrite old new)
      (either : Told (λ I J. (J ≡ I) ⊎ (J ≡ relabelled label I)) old new)
      (idle : (I : Image) → old.content ≡ Some I → relabelled label I ≡ I → ReadsOnly old new)
      (any_moment : (I : Image) → IsSettled old I → LeavesOnly old new (λ X. (X ≡ I) ⊎ (X ≡ relabelled label I)))
      (refused : IsRefusal cause → ReadsOnly old new)
      (fault : cause ≡ DeviceFault → Rose old.faults new.faults) where
    ends_by_cause : Prints before after cause → LabelRun label name old new before after cause
    ends_by_cause prints = record {
      answer = λ I told. answer_of (refusal_of label I) cause (answer I told);
      range = range;
      causes = causes;
      named = named;
      at_most = at_most;
      done = λ done. absurd (not_done done);
      either = either;
      idle = idle;
      any_moment = any_moment;
      settled = λ done. absurd (not_done done);
      refused = refused;
      fault = fault;
      output = λ calm. subst (Takes before after) (reply_is_line cause not_done) (prints.0 calm);
      front = subst (TakesSome before after) (reply_is_line cause not_done) prints.1;
      stops = stops;
      fine = λ is. absurd (not_done (let done : IsDone cause = ap class_of is in done));
      output_fault = λ is. absurd (not_done (let done : IsDone cause = ap class_of is in done));
    }

    pub ends_refused : (result : Cause) → EndsBy cause result → Prints before after result → LabelRun label name old new before after result
    ends_refused result (inl same) = subst (λ (r : Cause). Prints before after r → LabelRun label name old new before after r) (sym same) ends_by_cause
    ends_refused result (inr none) = subst (λ (r : Cause). Prints before after r → LabelRun label name old new before after r) (sym none.0) (ends_by_memory at_most either idle any_moment)

  -- the label was given
  module _ (none : (I : Image) → old.content ≡ Some I → refusal_of label I ≡ None)
      (named : IsAttachedOnce name ReadWrite old new)
      (done : Told (λ I J. J ≡ relabelled label I) old new)
      (either : Told (λ I J. (J ≡ I) ⊎ (J ≡ relabelled label I)) old new)
      (idle : (I : Image) → old.content ≡ Some I → relabelled label I ≡ I → ReadsOnly old new)
      (any_moment : (I : Image) → IsSettled old I → LeavesOnly old new (λ X. (X ≡ I) ⊎ (X ≡ relabelled label I)))
      (settled : (I : Image) → IsSettled old I → IsSettled new (relabelled label I))
      (said : TakesSome before after done_text) where
    answers : (cause : Cause) → IsAnswer None cause → (I : Image) → old.content ≡ Some I → IsAnswer (refusal_of label I) cause
    answers cause is I told = subst (λ (r : Option Cause). IsAnswer r cause) (sym (none I told)) is

    -- whether its text could be put or not
    ends_given : (cause : Cause) → IsAnswer None cause → ((which : Which) (value : ℕ) → cause ≢ Range which value) → IsOfTunefs cause → (IsRefusal cause → ⊥) → cause ≢ DeviceFault
        → reply_text cause ≡ done_text → ((Rose before.faults after.faults → ⊥) → Takes before after done_text)
        → (cause ≡ Fine → after.faults ≡ before.faults) → (cause ≡ OutputFault → FailsLast before after) → LabelRun label name old new before after cause
    ends_given cause answer in_range causes not_refused no_fault text all calm fails = record {
      answer = answers cause answer;
      range = λ which value is. absurd (in_range which value is);
      causes = causes;
      named = λ other. named;
      at_most = inr named;
      done = λ is. done;
      either = either;
      idle = idle;
      any_moment = any_moment;
      settled = λ is. settled;
      refused = λ refused. absurd (not_refused refused);
      fault = λ is. absurd (no_fault is);
      output = λ quiet. subst (Takes before after) (sym text) (all quiet);
      front = subst (TakesSome before after) (sym text) said;
      stops = stops;
      fine = calm;
      output_fault = fails;
    }

    pub ends_fine : Takes before after done_text → after.faults ≡ before.faults → LabelRun label name old new before after Fine
    ends_fine all calm =
        ends_given Fine (inl refl) (λ which value is. cc is) tt (λ refused. cc refused) (λ is. cc is) refl
        (λ quiet. all) (λ is. calm) (λ is. absurd (let none : ⊥ = cc is in none))

    pub ends_unsaid : FailsLast before after → LabelRun label name old new before after OutputFault
    ends_unsaid fails =
        ends_given OutputFault (inr (inl refl)) (λ which value is. cc is) tt (λ refused. cc refused) (λ is. cc is) refl
        (λ quiet. absurd (quiet (fails_rose before after fails))) (λ is. absurd (let none : ⊥ = cc is in none)) (λ is. fails)

-- nothing was begun, since memory ran out while the words were read
pub not_begun : (label name : List ℕ) (d : DiskState) (only_now : (X : Image) → d.left_since d.moment X → d.may_leave X) (before after : SinkState) → StopsAtFault before after → Prints before after NoMemory
    → LabelRun label name d d before after NoMemory
not_begun label name d only_now before after stops prints =
    ends_by_memory label name d d before after stops (inl refl)
    (λ I told. (I, told, inl refl))
    (λ I told same. reads_none d)
    (λ I settled. leaves_itself I only_now settled (inl refl) (reads_none d))
    prints
