-- The pieces from this byte on are still to be added.
use Rattle.std.proofs.Common.{length, drop, ◌-◌, ◌≡◌, ◌+◌, ◌/◌}
use Rattle.o2_ondisk.specs.NameHashes.{with_pieces}
use Rattle.o2_ondisk.proofs.hash.add_pieces.Given as goal

abbrev pub invariant-loop-at : goal.invariant-loop-at
invariant-loop-at l = with_pieces ((length l.name - l.at + 15) / 16) (drop l.at l.name) l.halves ≡ with_pieces ((length l.fn.name + 15) / 16) l.fn.name l.fn.before

abbrev pub decreases-loop-at : goal.decreases-loop-at
decreases-loop-at l = length l.name - l.at
