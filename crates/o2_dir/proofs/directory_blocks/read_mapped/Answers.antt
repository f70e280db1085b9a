-- The places are those of the volume's blocks.
use Rattle.std.proofs.Common.{List, map, subst}
use Rattle.std.proofs.lemmas.Result.{IfOk-weaker}
use Rattle.o2_dir.specs.Blocks.{block_at_place}
use Rattle.o2_dir.specs.WholeDirectories.{KeepsWhole}
use Rattle.o2_dir.specs.declared.places.Place.{Place}
use Rattle.o2_dir.proofs.Whole.{places_are}
use Rattle.o2_dir.proofs.directory_blocks.read_mapped.Goals as goal

pub returns-clause-read : goal.returns-clause-read
returns-clause-read g c = IfOk-weaker c.read_places.result _ _
    (λ whole is v shows.
    let are = places_are v c.args.geo.now c.args.size c.args.leaves.now shows.numbers _ _ _ c.as_slice.result.now
    c.block_bytes-bytes.ensures.bytes c.blocks_per_cluster-per_cluster.ensures.blocks c.in_ok-places.ensures.places c.as_slice.ensures.value in
    subst (λ (ps : List Place). KeepsWhole (λ b. v.at b.block) whole (map (block_at_place v) ps)) are (is v shows))
    c.read_places.ensures.read
