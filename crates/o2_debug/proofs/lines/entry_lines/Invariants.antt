-- The lines of the first entries.
use Rattle.std.proofs.Common.{◌≡◌, map, take}
use Rattle.o2_debug.specs.Lines.{entry_line}
use Rattle.o2_debug.proofs.lines.entry_lines.Given as goal

abbrev pub invariant-loop-entry : goal.invariant-loop-entry
invariant-loop-entry l = l.lines.items ≡ map entry_line (take l.entry-index l.entries)
