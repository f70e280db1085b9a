-- The command lines that a tool serves.
use Rattle.std.specs.Prelude.{◌⊎◌}
use Rattle.o2_words.specs.CommandLine.{Words, IsTunefs, IsCheckLine}
use Rattle.o2_words.specs.Commands.{AsksQuery}

-- it gives a label, asks a query that is answered, or asks what fails on a volume
abbrev pub IsServedLine : Words → Type 0
IsServedLine words = IsTunefs words ⊎ AsksQuery words ⊎ IsCheckLine words
