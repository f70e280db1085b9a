-- The missing ones of the places so far.
use Rattle.std.proofs.Common.{◌≡◌, map}
use Rattle.std.specs.List.{range_with_len}
use Rattle.o2_model.specs.Faults.{those_not}
use Rattle.o2_model.specs.ClusterGroups.{group_place}
use Rattle.o2_tally.specs.Again.{has_number}
use Rattle.o2_view.specs.Geos.{bare}
use Rattle.o2_judges_alloc.proofs.missing.places_not_in.Given as goal

abbrev pub invariant-loop-i : goal.invariant-loop-i
invariant-loop-i l = l.missing.items ≡ those_not (has_number l.reached) (map (group_place (bare l.geo)) (range_with_len 0 l.i))
