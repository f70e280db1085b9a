-- One place more.
use Rattle.std.proofs.Common.{[], ◌∷◌, ◌++◌, ◌∙◌, ap}
use Rattle.o2_model.specs.Faults.{those_not}
use Rattle.o2_model.specs.ClusterGroups.{group_place}
use Rattle.o2_tally.specs.Again.{has_number}
use Rattle.o2_view.specs.Geos.{bare}
use Rattle.o2_judges_alloc.proofs.PlacesTold.{next_place}
use Rattle.o2_judges_alloc.proofs.missing.places_not_in.Goals as goal

pub loop-i-preserved : goal.loop-i-preserved
loop-i-preserved c =
    next_place (has_number c.args.reached.now) (group_place (bare c.args.geo.now)) c.loop-i.i c.loop-i.missing.items c.judge_place.new.missing.items c.loop-i.invariant
    (c.in_ok-judge_place.ensures ∙ ap (λ n. c.loop-i.missing.items ++ those_not (has_number c.args.reached.now) (n ∷ [])) c.group_place.ensures)
