-- The blocks are those that the records map, or the inline bytes.
use Rattle.std.proofs.Common.{length, arith}
use Rattle.o2_extent.proofs.Sizes.{few_bytes}
use Rattle.o2_dir.proofs.AnyBlocks.{inline_told, size_told_of}
use Rattle.o2_dir.proofs.Whole.{block_is}
use Rattle.o2_dir.proofs.WholeKept.{whole_inline, whole_mapped}
use Rattle.o2_dir.proofs.directory_whole.whole_directory.Goals as goal

pub read_inline-requires-clause-most : goal.read_inline-requires-clause-most
read_inline-requires-clause-most g c = omega (arith, few_bytes c.args.geo.now c.requires.geo.sizes, c.requires.size)

pub returns-then-is_inline-clause-told : goal.returns-then-is_inline-clause-told
returns-then-is_inline-clause-told g c v shows held =
    let d = c.args.inode in
    let bytes = c.args.bytes.now in
    let inside = inline_told bytes (v.at d) _ _ _ held.holds c.read_dinode-dinode.ensures c.is_inline.ensures c.if-is_inline.true in
    let long = block_is v c.args.geo.now (length bytes) shows.numbers c.requires.size in
    c.directory_of.ensures v d (whole_inline v d c.in_ok-whole.whole inside (c.in_ok-whole.ensures v held.holds long))

pub returns-clause-told : goal.returns-clause-told
returns-clause-told g c v shows held =
    let d = c.args.inode in
    let bytes = c.args.bytes.now in
    let outside = inline_told bytes (v.at d) _ _ _ held.holds c.read_dinode-dinode.ensures c.is_inline.ensures c.if-is_inline.false in
    let tells = size_told_of bytes (v.at d) _ held.holds c.read_dinode-dinode.ensures in
    c.directory_of-2.ensures v d
    (whole_mapped v d c.read_dinode-dinode.result.size c.args.leaves.now c.in_ok-whole-2.whole outside tells held.are (c.in_ok-whole-2.ensures.read v shows))
