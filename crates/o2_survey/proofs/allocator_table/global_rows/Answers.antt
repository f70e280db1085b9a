-- The global bitmap's row, then that of global_inode_alloc.
use Rattle.std.proofs.Common.{[]}
use Rattle.o2_view.proofs.Shown.{still_shows}
use Rattle.o2_survey.specs.AllocatorRows.{allocators_told}
use Rattle.o2_survey.proofs.Rows.{none_yet, both_told}
use Rattle.o2_survey.proofs.allocator_table.global_rows.Goals as goal

pub returns-clause-told : goal.returns-clause-told
returns-clause-told g c v shows read are =
    let first = allocators_told v c.allocator_of-bitmap.result in
    let second = allocators_told v c.allocator_of-inode_alloc.result in
    let one = c.in_ok-add_row.ensures.added v shows read [] (none_yet v _ c.new-rows.ensures.items) in
    both_told v [] first second _ _ c.add_row-2.new.rows.items (c.allocator_of-bitmap.ensures v are) (c.allocator_of-inode_alloc.ensures v are)
    (c.in_ok-add_row-2.ensures.added v (still_shows c.add_row.ensures.reads shows) read first one)
