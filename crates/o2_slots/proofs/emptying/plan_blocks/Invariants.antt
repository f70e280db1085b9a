-- The blocks so far are emptied.
use Rattle.o2_model.specs.Volume.{Volume}
use Rattle.o2_view.specs.HomePlans.{PlansHome, PlansOnly}
use Rattle.o2_view.specs.Views.{Shows}
use Rattle.o2_slots.specs.Emptied.{entry_blocks}
use Rattle.o2_slots.proofs.EmptiedVolumes.{AreEmptiedBelow}
use Rattle.o2_slots.proofs.emptying.plan_blocks.Given as goal

abbrev pub invariant-loop-k : goal.invariant-loop-k
invariant-loop-k g l = record {
  emptied : (v : Volume) → Shows l.fn.view l.geo v → (new : Volume) × Shows l.view l.geo new × AreEmptiedBelow v new l.place l.from l.k;
  alone : PlansOnly (entry_blocks l.geo l.place l.from) l.fn.view l.view;
  plans : PlansHome l.fn.view l.view;
}
