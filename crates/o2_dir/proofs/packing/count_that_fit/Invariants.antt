-- What the entries so far need has room.
use Rattle.std.proofs.Common.{◌≡◌, ◌≤◌, take}
use Rattle.o2_dir.specs.Packings.{needs_of}
use Rattle.o2_dir.proofs.packing.count_that_fit.Given as goal

abbrev pub invariant-loop-count : goal.invariant-loop-count
invariant-loop-count l = record {
  used : l.used ≡ needs_of (take l.count l.entries);
  fit : l.used ≤ l.room;
}
