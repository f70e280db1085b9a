-- The part is the inline bytes.
use Rattle.std.proofs.Common.{[]}
use Rattle.o2_dir.proofs.InDinode.{is_read}
use Rattle.o2_dir.proofs.inline_directory.read_part.Goals as goal

pub returns : goal.returns
returns c = is_read c.add_block.new.reading c.args.inode c.args.size c.args.bytes.now _ c.inline_part-part.ensures.part (c.in_ok-add_block.ensures [] c.start-reading.ensures)
