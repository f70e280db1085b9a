-- The statuses of a program that ends before a tool begins.
use Rattle.std.specs.Prelude.{ℕ}
use Rattle.o2tools.specs.declared.ending.Ending.{Ending}
use Rattle.o2tools.specs.declared.ending.Ending.TheVariants.{NotText, NoMemory, NoRandom, NoNull}

abbrev pub status_before : Ending → ℕ
status_before NotText = 16
status_before NoMemory = 64
status_before NoRandom = 66
status_before NoNull = 8
