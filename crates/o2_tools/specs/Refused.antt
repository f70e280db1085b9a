-- The cause by which words are refused.
use Rattle.std.specs.Prelude.{◌≡◌}
use Rattle.o2_cause.specs.declared.cause.Cause.{Cause}
use Rattle.o2_cause.specs.declared.cause.Cause.TheVariants as cause
use Rattle.o2_words.specs.CommandLine.{Words, RefusesWords}
use Rattle.o2_words.specs.declared.command.WordFault.{WordFault}
use Rattle.o2_words.specs.declared.command.WordFault.TheVariants as fault

-- the cause of the same name
abbrev pub cause_of : WordFault → Cause
cause_of fault.NoMemory = cause.NoMemory
cause_of (fault.Usage place) = cause.Usage place
cause_of fault.Later = cause.Later

-- the words are refused by this cause
abbrev pub RefusesBy : Words → Cause → Type 0
RefusesBy words cause = (fault : WordFault) × (cause ≡ cause_of fault) × RefusesWords words fault
