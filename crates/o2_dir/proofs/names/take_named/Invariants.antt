-- No entry so far has the name.
use Rattle.std.proofs.Common.{◌≡◌, find}
use Rattle.o2_model.specs.Directories.{is_named}
use Rattle.o2_dir.proofs.names.take_named.Given as goal

abbrev pub invariant-loop-entry : goal.invariant-loop-entry
invariant-loop-entry l = find (is_named l.name) l.entry-iterator.rest.items ≡ find (is_named l.name) l.fn.entries.items
