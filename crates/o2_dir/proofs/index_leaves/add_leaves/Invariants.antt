-- The leaves under the records from this one on are left.
use Rattle.std.proofs.Common.{drop, flat_map}
use Rattle.o2_model.specs.Volume.{Volume}
use Rattle.o2_model.specs.LeafRecords.{blocks_under}
use Rattle.o2_view.specs.Views.{Shows, OnlyReads}
use Rattle.o2_dir.proofs.IndexLeaves.{GoesOn}
use Rattle.o2_dir.proofs.index_leaves.add_leaves.Given as goal

abbrev pub invariant-loop-leaf : goal.invariant-loop-leaf
invariant-loop-leaf g l = record {
  goes : (v : Volume) → Shows l.fn.view l.geo v
      → GoesOn v (flat_map (blocks_under v) (drop l.leaf-index l.leaves)) (flat_map (blocks_under v) l.leaves) l.fn.entries.items l.entries.items;
  reads : OnlyReads l.fn.view l.view;
}
