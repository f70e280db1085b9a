-- The bytes are read where the dinode says that they are.
use Rattle.std.proofs.lemmas.List.{take_rest}
use Rattle.std.proofs.lemmas.Result.{IfOk-weaker}
use Rattle.o2_dir.proofs.AnyBlocks.{inline_told, size_told_of}
use Rattle.o2_dir.proofs.FileParts.{inline_part, fast_part, mapped_part, fast_told}
use Rattle.o2_dir.proofs.file_bytes.read_data.Goals as goal

pub returns-then-is_inline-clause-bytes : goal.returns-then-is_inline-clause-bytes
returns-then-is_inline-clause-bytes g c v shows b read =
    let bytes = c.args.bytes.now in
    let inside = inline_told bytes (v.at b) _ _ _ read.holds c.read_dinode-dinode.ensures c.is_inline.ensures c.if-is_inline.true in
    inline_part v b c.read_dinode-dinode.result.size c.args.at c.args.len bytes _ _ inside read.holds (size_told_of bytes (v.at b) _ read.holds c.read_dinode-dinode.ensures) (take_rest bytes 0xc8) c.in_ok-copy_part.ensures

pub returns-then-is_fast_link-clause-bytes : goal.returns-then-is_fast_link-clause-bytes
returns-then-is_fast_link-clause-bytes g c v shows b read =
    let bytes = c.args.bytes.now in
    let outside = inline_told bytes (v.at b) _ _ _ read.holds c.read_dinode-dinode.ensures c.is_inline.ensures c.if-is_inline.false in
    let fast = fast_told bytes (v.at b) _ _ _ read.holds c.read_dinode-dinode.ensures c.is_fast_link.ensures c.if-is_fast_link.true in
    fast_part v b c.read_dinode-dinode.result.size c.args.at c.args.len bytes _ _ outside fast read.holds (size_told_of bytes (v.at b) _ read.holds c.read_dinode-dinode.ensures) (take_rest bytes 0xc0) c.in_ok-copy_part-2.ensures

pub returns-clause-bytes : goal.returns-clause-bytes
returns-clause-bytes g c = IfOk-weaker c.read_mapped.result _ _
    (λ out is v shows b read.
    let bytes = c.args.bytes.now in
    let outside = inline_told bytes (v.at b) _ _ _ read.holds c.read_dinode-dinode.ensures c.is_inline.ensures c.if-is_inline.false in
    let slow = fast_told bytes (v.at b) _ _ _ read.holds c.read_dinode-dinode.ensures c.is_fast_link.ensures c.if-is_fast_link.false in
    mapped_part v b c.read_dinode-dinode.result.size c.args.at c.args.len c.args.leaves.now out.items outside slow (size_told_of bytes (v.at b) _ read.holds c.read_dinode-dinode.ensures) read.are (is v shows))
    c.read_mapped.ensures.bytes
