-- The claims of the backups so far were looked through.
use Rattle.std.proofs.Common.{◌≡◌, ◌+◌, ◌*◌, ◌-◌, ◌^◌, nat_lt, map, filter}
use Rattle.std.specs.List.{range_with_len}
use Rattle.o2_model.specs.declared.claim.Owner.TheVariants.{Backup}
use Rattle.o2_model.specs.Claims.{claims_by}
use Rattle.o2_check.specs.OwnersAt.{AddsOwners}
use Rattle.o2_check.proofs.found.add_backups.Given as goal

abbrev pub invariant-loop-k : goal.invariant-loop-k
invariant-loop-k l = AddsOwners (claims_by Backup (filter (λ c. nat_lt c l.geo.clusters) (map (λ k. 2 ^ (30 + 2 * k - l.geo.cluster_bits)) (range_with_len 0 l.k)))) l.cluster l.fn.owners.items l.owners.items
