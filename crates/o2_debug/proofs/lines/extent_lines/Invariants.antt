-- The lines of the first records.
use Rattle.std.proofs.Common.{◌≡◌, map, take}
use Rattle.o2_debug.specs.Lines.{extent_line}
use Rattle.o2_debug.proofs.lines.extent_lines.Given as goal

abbrev pub invariant-loop-leaf : goal.invariant-loop-leaf
invariant-loop-leaf l = l.lines.items ≡ map extent_line (take l.leaf-index l.leaves)
