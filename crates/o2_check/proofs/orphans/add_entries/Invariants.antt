-- Those of the entries so far were put.
use Rattle.std.proofs.Common.{◌≡◌, ◌++◌, filter, take}
use Rattle.o2_check.specs.OrphanRows.{is_name}
use Rattle.o2_check.proofs.orphans.add_entries.Given as goal

abbrev pub invariant-loop-entry : goal.invariant-loop-entry
invariant-loop-entry l = l.found.items ≡ l.fn.found.items ++ filter is_name (take l.entry-index l.entries)
