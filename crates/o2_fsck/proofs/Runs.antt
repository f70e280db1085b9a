-- How a run that checks a volume ends.
use Rattle.std.proofs.Common.{◌≡◌, ◌≢◌, ◌⊎◌, inl, inr, ℕ, List, [], ◌∷◌, codes, Some, refl, sym, ◌∙◌, ap, subst}
use Rattle.o2_disk.specs.Device.{DiskState, ReadsOnly, Rose, IsAttachedOnce, IsAttachedAtMostOnce, IsWritable}
use Rattle.o2_disk.specs.Output.{SinkState, FailsLast, StopsAtFault}
use Rattle.o2_disk.specs.declared.disk.How.TheVariants.{ReadOnly}
use Rattle.o2_disk.proofs.Moments.{reads_none}
use Rattle.o2_disk.proofs.Sinks.{fails_rose}
use Rattle.o2_model.specs.Image.{Image}
use Rattle.o2_model.specs.declared.check.Check.{Check}
use Rattle.o2_check.proofs.FirstPairs.{skeleton_of_none}
use Rattle.o2_cause.specs.Causes.{cause_line, EndsBy}
use Rattle.o2_cause.specs.Taken.{Takes, TakesSome}
use Rattle.o2_cause.specs.declared.cause.Cause.{Cause}
use Rattle.o2_cause.specs.declared.cause.Cause.TheVariants.{Fine, Uncorrected, Usage, Later, NotOcfs2, Unsupported, Absent, WrongKind, Bad, Range, DeviceFault, OutputFault, NoMemory}
use Rattle.o2_open.specs.Openings.{IsOfOpening}
use Rattle.o2_fsck.specs.Reports.{report_text}
use Rattle.o2_fsck.specs.Verdicts.{ComesFor, AreFailing, Puts}
use Rattle.o2_fsck.specs.Ends.{verdict_of, unheard_verdict_of, EndsReport}
use Rattle.o2_fsck.specs.CheckRun.{CheckRun, IsOfCheck, IsReply}

-- ---- the verdict
consistent : (I : Image) → AreFailing I [] → ComesFor I Fine
consistent I served = record {
  volume = served.volume;
  is_opened = served.is;
  supported_features = served.supported;
  supported_structures = served.holds.0 (skeleton_of_none served.volume (sym served.holds.1));
  none_fails = sym served.holds.1;
}

first_told : (I : Image) (check : Check) (b : ℕ) (rest : List (Check × ℕ)) → AreFailing I ((check, b) ∷ rest) → ComesFor I (Uncorrected check b)
first_told I check b rest served = record { volume = served.volume; is = served.is; supported = served.supported; holds = (served.holds.0, (rest, sym served.holds.1)) }

-- ---- a volume that was checked
module _ (name : List ℕ) (old new : DiskState) (before after : SinkState) (reads : ReadsOnly old new) (named : IsAttachedOnce name ReadOnly old new) (not_writable : IsWritable new.attached → ⊥) where
  checked : (cause : Cause) → IsOfCheck cause → (cause ≡ DeviceFault → ⊥) → ((I : Image) → old.content ≡ Some I → ComesFor I cause) → ((I : Image) → old.content ≡ Some I → IsReply I cause before after)
      → StopsAtFault before after → (cause ≡ Fine → after.faults ≡ before.faults) → (cause ≡ OutputFault → FailsLast before after) → CheckRun name old new before after cause
  checked cause causes whole told reply stops fine fails = record {
    told = told;
    reply = reply;
    causes = causes;
    reads = reads;
    named = λ other. named;
    at_most = inr named;
    not_writable = λ other. not_writable;
    fault = λ is. absurd (whole is);
    stops = stops;
    fine = fine;
    output_fault = fails;
  }

  ends_heard : (pairs : List (Check × ℕ)) → ((I : Image) → old.content ≡ Some I → AreFailing I pairs) → TakesSome before after (report_text pairs) → Takes before after (report_text pairs) → after.faults ≡ before.faults
      → CheckRun name old new before after (verdict_of pairs)
  ends_heard [] are some taken calm = checked Fine tt (λ is. let none : ⊥ = cc is in none) (λ I told. consistent I (are I told)) (λ I told. ([], (are I told, record { some = some; whole = λ quiet. taken })))
      (inl calm) (λ is. calm) (λ is. absurd (let none : ⊥ = cc is in none))
  ends_heard ((check, b) ∷ rest) are some taken calm = checked (Uncorrected check b) tt (λ is. let none : ⊥ = cc is in none) (λ I told. first_told I check b rest (are I told))
      (λ I told. ((check, b) ∷ rest, (are I told, record { some = some; whole = λ quiet. taken })))
      (inl calm) (λ is. absurd (let none : ⊥ = cc is in none)) (λ is. absurd (let none : ⊥ = cc is in none))

  ends_unheard : (pairs : List (Check × ℕ)) → ((I : Image) → old.content ≡ Some I → AreFailing I pairs) → TakesSome before after (report_text pairs) → FailsLast before after
      → CheckRun name old new before after (unheard_verdict_of pairs)
  ends_unheard [] are some fails = checked OutputFault tt (λ is. let none : ⊥ = cc is in none) (λ I told. consistent I (are I told))
      (λ I told. ([], (are I told, record { some = some; whole = λ quiet. absurd (quiet (fails_rose before after fails)) })))
      (inr fails) (λ is. absurd (let none : ⊥ = cc is in none)) (λ is. fails)
  ends_unheard ((check, b) ∷ rest) are some fails = checked (Uncorrected check b) tt (λ is. let none : ⊥ = cc is in none) (λ I told. first_told I check b rest (are I told))
      (λ I told. ((check, b) ∷ rest, (are I told, record { some = some; whole = λ quiet. absurd (quiet (fails_rose before after fails)) })))
      (inr fails) (λ is. absurd (let none : ⊥ = cc is in none)) (λ is. absurd (let none : ⊥ = cc is in none))

  ends_starved : (pairs : List (Check × ℕ)) → ((I : Image) → old.content ≡ Some I → AreFailing I pairs) → TakesSome before after (report_text pairs) → after.faults ≡ before.faults → CheckRun name old new before after NoMemory
  ends_starved pairs are some calm = checked NoMemory tt (λ is. let none : ⊥ = cc is in none) (λ I told. tt) (λ I told. inr (pairs, (are I told, some)))
      (inl calm) (λ is. absurd (let none : ⊥ = cc is in none)) (λ is. absurd (let none : ⊥ = cc is in none))

  pub ends_told : (pairs : List (Check × ℕ)) (cause : Cause) → ((I : Image) → old.content ≡ Some I → AreFailing I pairs) → EndsReport pairs before after cause → CheckRun name old new before after cause
  ends_told pairs cause are report = elim report.ends [
    | inl heard ↦ subst (λ (k : Cause). CheckRun name old new before after k) (sym heard.0) (ends_heard pairs are report.some heard.2 heard.1)
    | inr (inl starved) ↦ subst (λ (k : Cause). CheckRun name old new before after k) (sym starved.0) (ends_starved pairs are report.some starved.1)
    | inr (inr unheard) ↦ subst (λ (k : Cause). CheckRun name old new before after k) (sym unheard.0) (ends_unheard pairs are report.some unheard.1)
  ]

-- ---- one that was not
module _ (name : List ℕ) (old new : DiskState) (before after : SinkState) (reads : ReadsOnly old new) (at_most : IsAttachedAtMostOnce name ReadOnly old new) (stops : StopsAtFault before after) where
  -- memory ran out, and nothing was put
  pub unput : after ≡ before → CheckRun name old new before after NoMemory
  unput same = record {
    told = λ I told. tt;
    reply = λ I told. inl same;
    causes = tt;
    reads = reads;
    named = λ other. absurd (other refl);
    at_most = at_most;
    not_writable = λ other. absurd (other refl);
    fault = λ is. absurd (let none : ⊥ = cc is in none);
    stops = stops;
    fine = λ is. absurd (let none : ⊥ = cc is in none);
    output_fault = λ is. absurd (let none : ⊥ = cc is in none);
  }

  module _ (not_writable : IsWritable new.attached → ⊥) where
    unchecked : (cause : Cause) → IsAttachedOnce name ReadOnly old new → IsOfCheck cause → ((I : Image) → old.content ≡ Some I → ComesFor I cause) → ((I : Image) → old.content ≡ Some I → IsReply I cause before after)
        → (cause ≡ DeviceFault → Rose old.faults new.faults) → (cause ≡ Fine → ⊥) → (cause ≡ OutputFault → ⊥) → CheckRun name old new before after cause
    unchecked cause named causes told reply fault not_fine heard = record {
      told = told;
      reply = reply;
      causes = causes;
      reads = reads;
      named = λ other. named;
      at_most = at_most;
      not_writable = λ other. not_writable;
      fault = fault;
      stops = stops;
      fine = λ is. absurd (not_fine is);
      output_fault = λ is. absurd (heard is);
    }

    -- by a cause of the opening
    by_opening : (cause : Cause) → IsOfOpening cause → ((I : Image) → old.content ≡ Some I → ComesFor I cause) → (cause ≡ DeviceFault → Rose old.faults new.faults) → (cause ≢ NoMemory → IsAttachedOnce name ReadOnly old new)
        → Puts before after (cause_line (codes "fsck") cause) → (cause_line (codes "fsck") cause ≡ [] → after ≡ before) → CheckRun name old new before after cause
    by_opening NotOcfs2 of told fault named puts silent = unchecked NotOcfs2 (named (λ is. let none : ⊥ = cc is in none)) tt told (λ I told. puts) fault (λ is. let none : ⊥ = cc is in none) (λ is. let none : ⊥ = cc is in none)
    by_opening (Unsupported what b) of told fault named puts silent = unchecked (Unsupported what b) (named (λ is. let none : ⊥ = cc is in none)) tt told (λ I told. puts) fault (λ is. let none : ⊥ = cc is in none) (λ is. let none : ⊥ = cc is in none)
    by_opening DeviceFault of told fault named puts silent = unchecked DeviceFault (named (λ is. let none : ⊥ = cc is in none)) tt told (λ I told. puts) fault (λ is. let none : ⊥ = cc is in none) (λ is. let none : ⊥ = cc is in none)
    by_opening NoMemory of told fault named puts silent = unput (silent refl)
    by_opening Fine of told fault named puts silent = absurd of
    by_opening (Uncorrected check b) of told fault named puts silent = absurd of
    by_opening (Usage place) of told fault named puts silent = absurd of
    by_opening Later of told fault named puts silent = absurd of
    by_opening (Absent path) of told fault named puts silent = absurd of
    by_opening (WrongKind path) of told fault named puts silent = absurd of
    by_opening (Bad check b) of told fault named puts silent = absurd of
    by_opening (Range which value) of told fault named puts silent = absurd of
    by_opening OutputFault of told fault named puts silent = absurd of

    pub ends_refused : (cause : Cause) → IsOfOpening cause → ((I : Image) → old.content ≡ Some I → ComesFor I cause) → (cause ≡ DeviceFault → Rose old.faults new.faults) → (cause ≢ NoMemory → IsAttachedOnce name ReadOnly old new)
        → (result : Cause) → EndsBy cause result → Puts before after (cause_line (codes "fsck") result) → (cause_line (codes "fsck") result ≡ [] → after ≡ before) → CheckRun name old new before after result
    ends_refused cause of told fault named result ends puts silent = elim ends [
      | inl same ↦
          by_opening result (subst IsOfOpening (sym same) of) (λ I content. subst (λ (k : Cause). ComesFor I k) (sym same) (told I content)) (λ is. fault (sym same ∙ is)) (λ other. named (λ is. other (same ∙ is))) puts silent
      | inr none ↦ subst (λ (k : Cause). CheckRun name old new before after k) (sym none.0) (unput (silent (ap (λ (k : Cause). cause_line (codes "fsck") k) none.0)))
    ]

-- nothing was begun, since memory ran out while the words were read
pub not_begun : (name : List ℕ) (d : DiskState) (before after : SinkState) → StopsAtFault before after → after ≡ before → CheckRun name d d before after NoMemory
not_begun name d before after stops same = unput name d d before after (reads_none d) (inl refl) stops same
