-- The allocators so far were walked.
use Rattle.std.proofs.Common.{◌*◌, map, take}
use Rattle.o2_model.specs.Volume.{Volume}
use Rattle.o2_view.specs.Counted.{CallsAtMost}
use Rattle.o2_view.specs.Views.{view_state, view_blocks, Shows, OnlyReads}
use Rattle.o2_tables.specs.Rows.{IsAllocatorTable}
use Rattle.o2_chain.specs.Whole.{HasGathered}
use Rattle.o2_chain.proofs.whole_walk.walk_all.Given as goal

abbrev pub invariant-loop-row : goal.invariant-loop-row
invariant-loop-row g l = record {
  told : (v : Volume) → Shows l.fn.view l.geo v → IsAllocatorTable v l.rows → HasGathered v (map (λ r. r.allocator) (take l.row-index l.rows)) l.gathered;
  count : CallsAtMost (l.row-index * view_blocks l.fn.view) (view_state l.fn.view) (view_state l.view);
  reads : OnlyReads l.fn.view l.view;
}
