-- The leaves of the blocks from this one on are left.
use Rattle.std.proofs.Common.{◌+◌, ◌-◌}
use Rattle.std.specs.List.{range_with_len}
use Rattle.o2_model.specs.Volume.{Volume}
use Rattle.o2_model.specs.LeafRecords.{blocks_under}
use Rattle.o2_view.specs.Views.{Shows, OnlyReads}
use Rattle.o2_dir.proofs.IndexLeaves.{GoesOn}
use Rattle.o2_dir.proofs.index_leaves.add_leaves_under.Given as goal

abbrev pub invariant-loop-k : goal.invariant-loop-k
invariant-loop-k g l = record {
  goes : (v : Volume) → Shows l.fn.view l.geo v
      → GoesOn v (range_with_len (l.leaf.block + l.k) (l.count - l.k)) (blocks_under v l.leaf) l.fn.entries.items l.entries.items;
  reads : OnlyReads l.fn.view l.view;
}
