-- The claims of the groups so far were looked through.
use Rattle.std.proofs.Common.{◌≡◌, flat_map, take}
use Rattle.o2_judges_claims.specs.ClaimRows.{group_claims}
use Rattle.o2_check.specs.OwnersAt.{AddsOwners}
use Rattle.o2_check.proofs.found.add_groups.Given as goal

abbrev pub invariant-loop-row : goal.invariant-loop-row
invariant-loop-row l = AddsOwners (flat_map (group_claims l.geo) (take l.row-index l.groups)) l.cluster l.fn.owners.items l.owners.items
