-- The bytes so far are none of them NUL.
use Rattle.std.proofs.Common.{◌≡◌, ◌++◌, take, drop}
use Rattle.std.specs.List.{take_while}
use Rattle.o2_debug.specs.VolumeLines.{is_of_label}
use Rattle.o2_debug.proofs.volume_lines.label_bytes.Given as goal

abbrev pub invariant-loop-end : goal.invariant-loop-end
invariant-loop-end l = take_while is_of_label l.label ≡ take l.end l.label ++ take_while is_of_label (drop l.end l.label)
