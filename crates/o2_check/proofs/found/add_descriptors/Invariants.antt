-- The claims of the descriptors so far were looked through.
use Rattle.std.proofs.Common.{◌≡◌, ◌+◌, ◌≤◌, ◌*◌, ◌-◌, map}
use Rattle.std.specs.List.{range_with_len}
use Rattle.o2_model.specs.declared.claim.Owner.TheVariants.{GlobalGroup}
use Rattle.o2_model.specs.ClusterGroups.{group_size}
use Rattle.o2_model.specs.Claims.{claims_by}
use Rattle.o2_view.specs.Geos.{bare}
use Rattle.o2_check.specs.OwnersAt.{AddsOwners}
use Rattle.o2_check.proofs.found.add_descriptors.Given as goal

abbrev pub invariant-loop-i : goal.invariant-loop-i
invariant-loop-i l = record {
  within : l.i ≤ 1 + (l.count - 1);
  owners : AddsOwners (claims_by GlobalGroup (map (λ i. i * group_size (bare l.geo)) (range_with_len 1 (l.i - 1)))) l.cluster l.fn.owners.items l.owners.items;
}
