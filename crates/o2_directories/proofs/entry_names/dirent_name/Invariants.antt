-- The blocks of the first entries are put there.
use Rattle.std.proofs.Common.{◌≡◌, ◌++◌, take}
use Rattle.o2_directories.proofs.SoundNames.{name_faults}
use Rattle.o2_directories.proofs.entry_names.dirent_name.Given as goal

abbrev pub invariant-loop-entry : goal.invariant-loop-entry
invariant-loop-entry l = l.found.items ≡ l.fn.found.items ++ name_faults (take l.entry-index l.entries)
