-- One record more.
use Rattle.o2_dir.proofs.MappedPlaces.{places_more}
use Rattle.o2_dir.proofs.places.places_within.Goals as goal

pub loop-leaf-preserved : goal.loop-leaf-preserved
loop-leaf-preserved c = record {
  places = places_more c.args.per_cluster c.args.limit c.args.leaves.now c.loop-leaf.leaf-index _ c.loop-leaf.places.items _ c.loop-leaf-test.true c.loop-leaf.invariant.places c.in_ok-add_written.ensures.added;
  inside = c.in_ok-add_written.ensures.inside c.loop-leaf.invariant.inside;
}
