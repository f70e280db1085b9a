-- The lines of the first records.
use Rattle.std.proofs.Common.{◌≡◌, map, take}
use Rattle.o2_debug.specs.Lines.{refcount_line}
use Rattle.o2_debug.proofs.lines.refcount_lines.Given as goal

abbrev pub invariant-loop-placed : goal.invariant-loop-placed
invariant-loop-placed l = l.lines.items ≡ map refcount_line (take l.placed-index l.records)
