-- By what a check ends, by what it found.
use Rattle.std.specs.Prelude.{◌≡◌, ◌⊎◌, ℕ, List, [], ◌∷◌}
use Rattle.o2_disk.specs.Output.{SinkState, FailsLast}
use Rattle.o2_model.specs.declared.check.Check.{Check}
use Rattle.o2_cause.specs.Taken.{Takes, TakesSome}
use Rattle.o2_cause.specs.declared.cause.Cause.{Cause}
use Rattle.o2_cause.specs.declared.cause.Cause.TheVariants.{Fine, Uncorrected, OutputFault, NoMemory}
use Rattle.o2_fsck.specs.Reports.{report_text}

-- the first pair, or none
abbrev pub verdict_of : List (Check × ℕ) → Cause
verdict_of [] = Fine
verdict_of (pair ∷ rest) = Uncorrected pair.0 pair.1

-- where the output failed
abbrev pub unheard_verdict_of : List (Check × ℕ) → Cause
unheard_verdict_of [] = OutputFault
unheard_verdict_of (pair ∷ rest) = Uncorrected pair.0 pair.1

-- The report of these pairs was put, or memory or the output ended before it did.
pub record EndsReport (pairs : List (Check × ℕ)) (before after : SinkState) (cause : Cause) : Type 0 where
  pub some : TakesSome before after (report_text pairs)
  pub ends :
      ((cause ≡ verdict_of pairs) × (after.faults ≡ before.faults) × Takes before after (report_text pairs))
      ⊎ ((cause ≡ NoMemory) × (after.faults ≡ before.faults))
      ⊎ ((cause ≡ unheard_verdict_of pairs) × FailsLast before after)
