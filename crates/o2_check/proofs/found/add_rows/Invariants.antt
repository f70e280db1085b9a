-- The claims of the inodes so far were looked through.
use Rattle.std.proofs.Common.{◌≡◌, flat_map, take}
use Rattle.o2_judges_claims.specs.ClaimRows.{row_claims}
use Rattle.o2_check.specs.OwnersAt.{AddsOwners}
use Rattle.o2_check.proofs.found.add_rows.Given as goal

abbrev pub invariant-loop-row : goal.invariant-loop-row
invariant-loop-row l = AddsOwners (flat_map row_claims (take l.row-index l.rows)) l.cluster l.fn.owners.items l.owners.items
