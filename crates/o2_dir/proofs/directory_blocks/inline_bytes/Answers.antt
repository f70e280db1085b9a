-- The bytes and their number are those of the dinode.
use Rattle.std.proofs.Common.{take, drop, ap, ◌∙◌}
use Rattle.std.proofs.lemmas.List.{take_rest}
use Rattle.o2_ondisk.specs.Dinodes.{dinode_of}
use Rattle.o2_dir.proofs.AnyBlocks.{size_told_of}
use Rattle.o2_dir.proofs.directory_blocks.inline_bytes.Goals as goal

pub returns : goal.returns
returns c v b holds =
    let bytes = c.args.bytes.now in
    let size = c.read_dinode.result.size in
    c.first.ensures
    ∙ (ap (take size) (take_rest bytes 0xc8)
    ∙ (ap (λ n. take n (drop 0xc8 bytes)) (size_told_of bytes (v.at b) c.read_dinode.result holds c.read_dinode.ensures)
    ∙ ap (λ bs. take (dinode_of (v.at b)).size (drop 0xc8 bs)) holds))
