-- The numbers of the fields, in a place of 12 bytes.
use Rattle.std.proofs.Common.{sym, ◌∙◌, ap}
use Rattle.o2_ondisk.specs.DirEntries.{dir_entry_of}
use Rattle.o2_dir.specs.Packings.{placed_front}
use Rattle.o2_dir.proofs.PlacedEntries.{fields_with, front_with}
use Rattle.o2_dir.proofs.piece.front_of.Goals as goal

pub returns-clause-bytes : goal.returns-clause-bytes
unfolding placed_front
returns-clause-bytes c = c.write_dir_entry.ensures.put ∙ ap (front_with c.args.entry.now c.args.len) c.as_slice.ensures

pub returns-clause-told : goal.returns-clause-told
returns-clause-told c = ap dir_entry_of (sym (returns-clause-bytes c)) ∙ (c.write_dir_entry.ensures.back ∙ ap (fields_with c.args.entry.now c.args.len) c.as_slice.ensures)
