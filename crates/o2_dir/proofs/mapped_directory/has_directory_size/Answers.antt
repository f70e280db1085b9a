-- The places are those of the directory's blocks.
use Rattle.o2_dir.proofs.Whole.{size_told}
use Rattle.o2_dir.proofs.mapped_directory.has_directory_size.Goals as goal

pub returns : goal.returns
returns c v d same h =
    size_told v c.args.geo.now d c.args.size c.args.leaves.now same h _ _ _ c.as_slice.result.now _
    c.block_bytes-bytes.ensures.bytes c.blocks_per_cluster-per_cluster.ensures.blocks c.in_ok-places.ensures.places c.as_slice.ensures.value c.has_size.ensures
