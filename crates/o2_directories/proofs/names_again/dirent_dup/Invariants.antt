-- What was told, and what is told of the entries that are left.
use Rattle.std.proofs.Common.{◌≡◌, ◌++◌, drop}
use Rattle.o2_directories.specs.MetNames.{has_name, repeats}
use Rattle.o2_directories.proofs.names_again.dirent_dup.Given as goal

abbrev pub invariant-loop-entry : goal.invariant-loop-entry
invariant-loop-entry l = l.again.items ++ repeats (has_name l.names) (drop l.entry-index l.entries) ≡ repeats (has_name l.initial.names) l.entries
