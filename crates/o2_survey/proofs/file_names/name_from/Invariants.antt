-- The bytes so far are the first ones of the text.
use Rattle.std.proofs.Common.{◌≡◌, take}
use Rattle.o2_survey.proofs.file_names.name_from.Given as goal

abbrev pub invariant-loop-byte : goal.invariant-loop-byte
invariant-loop-byte l = l.name.items ≡ take l.byte-index l.text
