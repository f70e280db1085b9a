use Rattle.std.proofs.Common.{◌≡◌, take}
use Rattle.o2_disk.specs.Calls.{run, start}
use Rattle.o2_disk.proofs.stopped.choices_of.Given as goal

abbrev pub invariant-loop-call : goal.invariant-loop-call
invariant-loop-call l = l.choices.items ≡ run (start l.base) (take l.call-index l.calls) l.s
