-- The rounds from this one on are still to be made.
use Rattle.std.proofs.Common.{◌≡◌, ◌-◌}
use Rattle.o2_ondisk.specs.NameHashes.{rounds}
use Rattle.o2_ondisk.proofs.hash.add_rounds.Given as goal

abbrev pub invariant-loop-done : goal.invariant-loop-done
invariant-loop-done l = rounds (16 - l.done) l.done l.words l.halves ≡ rounds 16 0 l.fn.words l.fn.before
