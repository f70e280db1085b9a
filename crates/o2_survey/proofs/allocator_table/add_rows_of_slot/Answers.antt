-- The extent_alloc's row, then the inode_alloc's.
use Rattle.std.proofs.Common.{◌++◌}
use Rattle.std.proofs.lemmas.Result.{on_ok_weaker}
use Rattle.o2_view.proofs.Shown.{still_shows}
use Rattle.o2_survey.specs.AllocatorRows.{allocators_told}
use Rattle.o2_survey.proofs.Rows.{both_told}
use Rattle.o2_survey.proofs.allocator_table.add_rows_of_slot.Goals as goal

pub returns-clause-added : goal.returns-clause-added
returns-clause-added g c = on_ok_weaker c.add_row-2.result
    (λ more v shows read are before rows.
    let first = allocators_told v c.allocator_of-first.result in
    let second = allocators_told v c.allocator_of-second.result in
    let one = c.in_ok-add_row.ensures.added v shows read before rows in
    both_told v before first second _ _ c.add_row-2.new.rows.items (c.allocator_of-first.ensures v are) (c.allocator_of-second.ensures v are)
    (more v (still_shows c.add_row.ensures.reads shows) read (before ++ first) one))
    c.add_row-2.ensures.added
