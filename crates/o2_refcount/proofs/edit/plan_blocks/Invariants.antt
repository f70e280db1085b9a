-- The blocks so far are planned.
use Rattle.std.proofs.Common.{◌≤◌, length, drop}
use Rattle.o2_model.specs.RefcountTrees.{Refcounts}
use Rattle.o2_model.specs.Volume.{Volume}
use Rattle.o2_view.specs.HomePlans.{PlansHome, PlansOnly}
use Rattle.o2_view.specs.Views.{Shows}
use Rattle.o2_refcount.specs.Readings.{nothing_read, with_blocks, IsReadWhole}
use Rattle.o2_refcount.specs.Recounts.{holders}
use Rattle.o2_refcount.proofs.BlockByBlock.{Going}
use Rattle.o2_refcount.proofs.edit.plan_blocks.Given as goal

abbrev pub invariant-loop-b : goal.invariant-loop-b
invariant-loop-b g l = record {
  within : l.from ≤ length l.to;
  planned : (v : Volume) → Shows l.fn.view l.geo v → IsReadWhole v l.blocks l.to
      → (now : Refcounts) × (w : Volume) × Shows l.view l.geo w × Going v w (drop l.b-index l.blocks) now (with_blocks v nothing_read l.blocks) l.from l.to
      × PlansOnly (holders now.records) l.fn.view l.view;
  plans : PlansHome l.fn.view l.view;
}
