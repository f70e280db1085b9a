-- From what is read so far the blocks left give what all give from the start.
use Rattle.std.proofs.Common.{◌≡◌, ℕ, List, take, drop}
use Rattle.o2_model.specs.RefcountTrees.{Refcounts}
use Rattle.o2_model.specs.Volume.{Volume}
use Rattle.o2_view.specs.Views.{Shows, OnlyReads}
use Rattle.o2_refcount.specs.Readings.{Keeps, with_blocks}
use Rattle.o2_refcount.specs.TreeReadings.{AreRefcountBlockRows}
use Rattle.o2_refcount.proofs.tree.read_blocks.Given as goal

abbrev pub invariant-loop-b : goal.invariant-loop-b
invariant-loop-b g l = record {
  rows : (v : Volume) → Shows l.fn.view l.geo v → AreRefcountBlockRows v (take l.b-index l.blocks) l.rows.items;
  read : (v : Volume) → Shows l.fn.view l.geo v → (before : List ℕ) (t : Refcounts) → Keeps before l.fn.reading t
      → (now : Refcounts) × Keeps before l.reading now × (with_blocks v now (drop l.b-index l.blocks) ≡ with_blocks v t l.blocks);
  reads : OnlyReads l.fn.view l.view;
}
