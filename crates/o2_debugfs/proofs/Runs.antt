-- How a run that answers a query ends.
use Rattle.std.proofs.Common.{◌≡◌, ◌≢◌, ◌⊎◌, inl, inr, ℕ, List, codes, Some, refl, sym, ap, subst}
use Rattle.o2_disk.specs.Device.{DiskState, ReadsOnly, Rose, IsAttachedOnce, IsAttachedAtMostOnce, IsWritable}
use Rattle.o2_disk.specs.Output.{SinkState, FailsLast, StopsAtFault}
use Rattle.o2_disk.specs.declared.disk.How.TheVariants.{ReadOnly}
use Rattle.o2_disk.proofs.Moments.{reads_none}
use Rattle.o2_disk.proofs.Sinks.{fails_rose, stops_behind}
use Rattle.o2_model.specs.Image.{Image}
use Rattle.o2_cause.specs.Causes.{cause_line, class_of, IsDone, IsRefusal, EndsBy}
use Rattle.o2_cause.specs.Taken.{Takes, TakesSome}
use Rattle.o2_cause.specs.declared.class.Class.{Class}
use Rattle.o2_cause.specs.declared.class.Class.TheVariants as class
use Rattle.o2_cause.specs.declared.cause.Cause.{Cause}
use Rattle.o2_cause.specs.declared.cause.Cause.TheVariants.{Fine, DeviceFault, NoMemory}
use Rattle.o2_cause.proofs.Fronts.{takes_nothing, all_is_some}
use Rattle.o2_debug.specs.declared.query.Query.{Query}
use Rattle.o2_debugfs.specs.Replies.{ComesFor, BeginsReport, TakesReport, TakesSomeOfReport}
use Rattle.o2_debugfs.specs.QueryRun.{QueryRun, IsOfQuery}

abbrev line_of : Cause → List ℕ
line_of cause = cause_line (codes "debugfs") cause

-- the sink took the line of this cause, or its first bytes where it failed
abbrev pub Prints : SinkState → SinkState → Cause → Type 0
Prints before after cause = ((Rose before.faults after.faults → ⊥) → Takes before after (line_of cause)) × TakesSome before after (line_of cause)

-- a run is done, or it is not
done_or_not : (c : Class) → (c ≡ class.Done) ⊎ (c ≡ class.Done → ⊥)
done_or_not class.Done = inl refl
done_or_not class.Refusal = inr (λ is. let none : ⊥ = cc is in none)
done_or_not class.Fault = inr (λ is. let none : ⊥ = cc is in none)

-- the run ends by this cause, or memory runs out for its line
module _ (query : Query) (name : List ℕ) (old new : DiskState) (before between after : SinkState)
    (reads : ReadsOnly old new) (at_most : IsAttachedAtMostOnce name ReadOnly old new)
    (begun : (I : Image) → old.content ≡ Some I → BeginsReport query I before between)
    (line : StopsAtFault between after) where
  -- behind no fault
  module _ (quiet : between.faults ≡ before.faults) where
    calm_behind : (Rose before.faults after.faults → ⊥) → Rose between.faults after.faults → ⊥
    calm_behind calm rose = calm (subst (λ (n : ℕ). Rose n after.faults) quiet rose)

    ends_by_memory : Prints between after NoMemory → QueryRun query name old new before after NoMemory
    ends_by_memory prints = record {
      told = λ I told. tt;
      report = λ I told is. absurd (let none : ⊥ = cc is in none);
      cut = λ I told is. absurd (let none : ⊥ = cc is in none);
      reply = λ I told. record {
        between = between;
        report = begun I told;
        refused = λ refused. absurd (let none : ⊥ = cc refused in none);
        line = prints.1;
        whole = λ calm. prints.0 (calm_behind calm);
      };
      causes = tt;
      reads = reads;
      named = λ other. absurd (other refl);
      at_most = at_most;
      not_writable = λ other. absurd (other refl);
      fault = λ is. absurd (let none : ⊥ = cc is in none);
      stops = stops_behind before between after quiet line;
      fine = λ is. absurd (let none : ⊥ = cc is in none);
      output_fault = λ is. absurd (let none : ⊥ = cc is in none);
    }

  module _ (cause : Cause) (not_fine : cause ≢ Fine)
      (told : (I : Image) → old.content ≡ Some I → ComesFor query I cause)
      (silent : (I : Image) → old.content ≡ Some I → IsRefusal cause → between ≡ before)
      (causes : IsOfQuery cause)
      (named : cause ≢ NoMemory → IsAttachedOnce name ReadOnly old new)
      (not_writable : IsWritable new.attached → ⊥)
      (fault : cause ≡ DeviceFault → Rose old.faults new.faults) where
    -- the output failed: no line is put
    module _ (done : IsDone cause) (fails : FailsLast before between) (cut : (I : Image) → old.content ≡ Some I → TakesSomeOfReport query I before between) where
      ends_unsaid_at : Prints between between cause → QueryRun query name old new before between cause
      ends_unsaid_at prints = record {
        told = told;
        report = λ I told is. absurd (not_fine is);
        cut = λ I told is. cut I told;
        reply = λ I told. record { between = between; report = begun I told; refused = silent I told; line = prints.1; whole = λ calm. absurd (calm (fails_rose before between fails)) };
        causes = causes;
        reads = reads;
        named = named;
        at_most = at_most;
        not_writable = λ other. not_writable;
        fault = fault;
        stops = inr fails;
        fine = λ is. absurd (not_fine is);
        output_fault = λ is. fails;
      }

      ends_unsaid : after ≡ between → Prints between after cause → QueryRun query name old new before after cause
      ends_unsaid same = subst (λ (s : SinkState). Prints between s cause → QueryRun query name old new before s cause) (sym same) ends_unsaid_at

    -- it did not
    ends_told : (IsDone cause → ⊥) → between.faults ≡ before.faults → Prints between after cause → QueryRun query name old new before after cause
    ends_told not_done quiet prints = record {
      told = told;
      report = λ I told is. absurd (not_fine is);
      cut = λ I told is. absurd (not_done (let done : IsDone cause = ap class_of is in done));
      reply = λ I told. record { between = between; report = begun I told; refused = silent I told; line = prints.1; whole = λ calm. prints.0 (calm_behind quiet calm) };
      causes = causes;
      reads = reads;
      named = named;
      at_most = at_most;
      not_writable = λ other. not_writable;
      fault = fault;
      stops = stops_behind before between after quiet line;
      fine = λ is. absurd (not_fine is);
      output_fault = λ is. absurd (not_done (let done : IsDone cause = ap class_of is in done));
    }

    ends_by : (IsDone cause → FailsLast before between) → (IsDone cause → (I : Image) → old.content ≡ Some I → TakesSomeOfReport query I before between) → ((IsDone cause → ⊥) → between.faults ≡ before.faults)
        → (IsDone cause → after ≡ between) → Prints between after cause → QueryRun query name old new before after cause
    ends_by fails cut quiet still = elim (done_or_not (class_of cause)) [
      | inl done ↦ ends_unsaid done (fails done) (cut done) (still done)
      | inr not_done ↦ ends_told not_done (quiet not_done)
    ]

    pub ends_refused : (result : Cause) → EndsBy cause result → (IsDone cause → FailsLast before between) → (IsDone cause → (I : Image) → old.content ≡ Some I → TakesSomeOfReport query I before between) → ((IsDone cause → ⊥) → between.faults ≡ before.faults)
        → (IsDone cause → after ≡ between) → Prints between after result → QueryRun query name old new before after result
    ends_refused result (inl same) fails cut quiet still = subst (λ (r : Cause). Prints between after r → QueryRun query name old new before after r) (sym same) (ends_by fails cut quiet still)
    ends_refused result (inr none) fails cut quiet still = subst (λ (r : Cause). Prints between after r → QueryRun query name old new before after r) (sym none.0) (ends_by_memory (quiet none.1))

-- nothing was begun, since memory ran out while the words were read
pub not_begun : (query : Query) (name : List ℕ) (d : DiskState) (before after : SinkState) → StopsAtFault before after → Prints before after NoMemory → QueryRun query name d d before after NoMemory
not_begun query name d before after line = ends_by_memory query name d d before before after (reads_none d) (inl refl) (λ I told. inl refl) line refl

-- the query was answered
pub ends_fine : (query : Query) (name : List ℕ) (old new : DiskState) (before after : SinkState) → ((I : Image) → old.content ≡ Some I → TakesReport query I before after) → ((I : Image) → old.content ≡ Some I → BeginsReport query I before after)
    → ReadsOnly old new → IsAttachedOnce name ReadOnly old new → (IsWritable new.attached → ⊥) → after.faults ≡ before.faults → QueryRun query name old new before after Fine
ends_fine query name old new before after report begun reads named not_writable calm = record {
  told = λ I told. let taken = report I told in (taken.0, taken.1.0);
  report = λ I told is. report I told;
  cut = λ I told is. absurd (let none : ⊥ = cc is in none);
  reply = λ I told. record {
    between = after;
    report = begun I told;
    refused = λ refused. absurd (let none : ⊥ = cc refused in none);
    line = all_is_some (takes_nothing after);
    whole = λ quiet. takes_nothing after;
  };
  causes = tt;
  reads = reads;
  named = λ other. named;
  at_most = inr named;
  not_writable = λ other. not_writable;
  fault = λ is. absurd (let none : ⊥ = cc is in none);
  stops = inl calm;
  fine = λ is. calm;
  output_fault = λ is. absurd (let none : ⊥ = cc is in none);
}
