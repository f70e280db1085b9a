-- The groups so far are planned.
use Rattle.std.proofs.Common.{◌≡◌, nat_lt, map, take}
use Rattle.o2_model.specs.declared.allocator.Allocator.{Allocator}
use Rattle.o2_model.specs.Volume.{Volume}
use Rattle.o2_view.specs.Views.{Shows}
use Rattle.o2_chain.specs.Edits.{AreEditedGroups, shared_by, shared_blocks}
use Rattle.o2_view.specs.HomePlans.{PlansHome, PlansOnly}
use Rattle.o2_chain.specs.Walks.{group_in}
use Rattle.o2_chain.proofs.edit.plan_groups.Given as goal

abbrev pub invariant-loop-group : goal.invariant-loop-group
invariant-loop-group g l = record {
  planned : (v : Volume) → Shows l.fn.view l.geo v → (a : Allocator) → (new : Volume) × Shows l.view l.geo new × AreEditedGroups v new l.set l.run (map (group_in a) (take l.group-index l.groups));
  some : (v : Volume) → v.geo ≡ l.geo → (a : Allocator) → l.some ≡ nat_lt 0 (shared_by v l.run (map (group_in a) (take l.group-index l.groups)));
  alone : (v : Volume) → v.geo ≡ l.geo → (a : Allocator) → PlansOnly (shared_blocks v l.run (map (group_in a) (take l.group-index l.groups))) l.fn.view l.view;
  plans : PlansHome l.fn.view l.view;
}
