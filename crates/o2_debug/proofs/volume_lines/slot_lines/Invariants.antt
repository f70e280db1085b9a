-- The lines of the first slots.
use Rattle.std.proofs.Common.{◌≡◌}
use Rattle.std.specs.Prelude.{flat_map}
use Rattle.std.specs.List.{range_with_len}
use Rattle.o2_debug.specs.VolumeLines.{slot_line}
use Rattle.o2_debug.proofs.volume_lines.slot_lines.Given as goal

abbrev pub invariant-loop-slot : goal.invariant-loop-slot
invariant-loop-slot l = l.lines.items ≡ flat_map (slot_line l.map) (range_with_len 0 l.slot)
