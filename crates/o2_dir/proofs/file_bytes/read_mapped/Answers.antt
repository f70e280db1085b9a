-- The bytes between two places are a part of all.
use Rattle.std.proofs.Common.{◌-◌, map, ◌∙◌}
use Rattle.std.specs.List.{range_with_len}
use Rattle.o2_model.specs.Contents.{byte_of}
use Rattle.o2_dir.proofs.FileParts.{all_made, part_of_range}
use Rattle.o2_dir.proofs.file_bytes.read_mapped.Goals as goal

pub returns-clause-bytes : goal.returns-clause-bytes
returns-clause-bytes g c v shows =
    let f = byte_of v c.args.leaves.now in
    let at = c.args.at in
    let count = c.end_of-end.result - at in
    all_made c.new-out.result.items c.add_bytes.new.out.items (map f (range_with_len at count)) c.new-out.ensures.items (c.in_ok-add_bytes.ensures.bytes v shows)
    ∙ part_of_range f c.args.size at c.args.len count c.end_of-end.ensures.count
