-- The one block is that of the dinode, and ends as its inline bytes do.
use Rattle.std.proofs.Common.{◌∙◌, ap}
use Rattle.o2_model.specs.Words.{push}
use Rattle.o2_model.specs.SoundIndexes.{ends_in_trailer}
use Rattle.o2_dir.proofs.WholeKept.{whole_inlined}
use Rattle.o2_dir.proofs.directory_blocks.read_inline.Goals as goal

pub returns : goal.returns
returns c v holds long =
    whole_inlined v c.args.inode _ (c.in_ok-reading.ensures v holds long) (c.in_ok-put.ensures.added ∙ ap (λ bs. push bs c.args.inode) c.new-blocks.ensures.items) (c.ends_in_trailer-has_trailers.ensures ∙ ap ends_in_trailer (c.inline_bytes.ensures v c.args.inode holds))
