-- One block more.
use Rattle.std.proofs.Common.{◌≡◌, ◌*◌, ◌+◌, ◌<◌, ap, arith}
use Rattle.std.proofs.Math.Nat.{mul-le-mul_left}
use Rattle.o2_dir.proofs.MappedPlaces.{first_more, first_inside}
use Rattle.o2_dir.proofs.places.add_mapped.Goals as goal

pub add_place-requires-clause-place : goal.add_place-requires-clause-place
add_place-requires-clause-place c = omega (arith, c.loop-k-test.true, mul-le-mul_left c.from.result c.requires.few, mul-le-mul_left c.from-2.result c.requires.few)

pub loop-k-preserved : goal.loop-k-preserved
loop-k-preserved c =
    let first : c.from.result * c.args.per_cluster ≡ c.args.leaf.now.cpos * c.args.per_cluster = ap (λ n. n * c.args.per_cluster) c.from.ensures in
    let count : c.from-2.result * c.args.per_cluster ≡ c.args.leaf.now.clusters * c.args.per_cluster = ap (λ n. n * c.args.per_cluster) c.from-2.ensures in
    let low : c.args.leaf.now.block + c.loop-k.k < c.args.blocks = omega (arith, c.requires.ends, count, c.loop-k-test.true) in
    let added = rw first at c.in_ok-add_place.ensures in
    record {
      added = first_more c.args.per_cluster c.args.limit c.args.leaf.now c.loop-k.k c.args.places.now.items c.loop-k.places.items _ c.loop-k.invariant.added added.added;
      inside = λ h. first_inside c.args.per_cluster c.args.limit c.args.leaf.now c.loop-k.k c.args.blocks c.loop-k.places.items _ low added.added (c.loop-k.invariant.inside h);
    }
