-- The counts of those so far.
use Rattle.std.proofs.Common.{take}
use Rattle.o2_indexes.specs.Places.{ArePlaceCounts}
use Rattle.o2_indexes.proofs.places.count_places.Given as goal

abbrev pub invariant-loop-place : goal.invariant-loop-place
invariant-loop-place l = ArePlaceCounts (take l.place-index l.places) l.counts
