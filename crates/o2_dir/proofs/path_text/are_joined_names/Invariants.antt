-- What is left goes on as all of the text does.
use Rattle.std.proofs.Common.{◌≡◌, true, drop}
use Rattle.o2_dir.proofs.PathNames.{goes_on}
use Rattle.o2_dir.proofs.path_text.are_joined_names.Given as goal

abbrev pub invariant-loop-byte : goal.invariant-loop-byte
invariant-loop-byte l = goes_on true l.text ≡ goes_on l.is_name_due (drop l.byte-index l.text)
