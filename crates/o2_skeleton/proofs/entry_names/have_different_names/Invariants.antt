-- The entries that are left decide, with the names that were met.
use Rattle.std.proofs.Common.{◌≡◌, ◌&&◌, drop}
use Rattle.o2_skeleton.specs.Names.{has_name}
use Rattle.o2_skeleton.proofs.EntryLists.{differ, are_fresh}
use Rattle.o2_skeleton.proofs.entry_names.have_different_names.Given as goal

abbrev pub invariant-loop-entry : goal.invariant-loop-entry
invariant-loop-entry l = (differ (drop l.entry-index l.entries) && are_fresh (has_name l.names) (drop l.entry-index l.entries)) ≡ differ l.entries
