-- No refcount block stands out of range.
use Rattle.std.proofs.Common.{[], ◌∷◌, ◌∙◌}
use Rattle.o2_refcount.specs.Readings.{nothing_read}
use Rattle.o2_refcount.proofs.TreesTold.{not_read_told}
use Rattle.o2_refcount.proofs.tree_row.not_read.Goals as goal

pub returns : goal.returns
returns c v out =
    let root = c.args.root in
    let kept = c.in_ok-add_fault.ensures (root ∷ []) nothing_read c.in_ok-reading.ensures in
    let told = c.row_out_of_range.ensures in
    not_read_told v root out _ told.of (told.row v out) told.not (c.from.ensures ∙ c.new.ensures.items) (c.from-2.ensures ∙ c.new-2.ensures.items)
    (c.from-3.ensures ∙ kept.records) kept.faults c.new-3.ensures.items c.new-4.ensures.items
