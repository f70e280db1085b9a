-- One block more.
use Rattle.std.proofs.Common.{◌≡◌, ◌&&◌, sym, ◌∙◌, ap}
use Rattle.o2_model.specs.Directories.{DirBlock, entries_in}
use Rattle.o2_model.specs.SoundIndexes.{ends_in_trailer}
use Rattle.o2_dir.proofs.WholeKept.{whole_more}
use Rattle.o2_dir.proofs.whole_reading.add_whole_block.Goals as goal
use Rattle.o2_dir.proofs.whole_reading.add_whole_block.Goals.{then-whole, else-whole}

pub returns : goal.returns
returns c bytes_of bs h has =
    let b : DirBlock = record { place = c.args.place; block = c.args.block; found = entries_in c.args.bytes.now } in
    let both : c.if-whole.whole ≡ (c.args.whole.now.has_trailers && ends_in_trailer c.args.bytes.now) = elim c.if-whole.branch [
      | then-whole w ↦ w.whole-is ∙ (c.ends_in_trailer-has_trailer.ensures ∙ ap (λ t. t && ends_in_trailer c.args.bytes.now) (sym w.if-whole.true))
      | else-whole w ↦ w.whole-is ∙ (w.if-whole.false ∙ ap (λ t. t && ends_in_trailer c.args.bytes.now) (sym w.if-whole.false))
    ] in
    whole_more bytes_of c.args.whole.now _ bs b c.args.bytes.now h (c.in_ok-add_block.ensures bs h.kept) c.in_ok-put.ensures.added has both
