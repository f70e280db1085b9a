-- One backup more.
use Rattle.std.proofs.Common.{◌+◌, ◌-◌, ◌*◌, ◌^◌}
use Rattle.o2_model.specs.declared.claim.Owner.TheVariants.{Backup}
use Rattle.o2_judges_claims.proofs.ClaimsTold.{next_kept}
use Rattle.o2_check.proofs.FoundOwners.{adds_next}
use Rattle.o2_check.proofs.found.add_backups.Goals as goal

pub loop-k-preserved : goal.loop-k-preserved
loop-k-preserved c =
    adds_next _ _ _ c.args.cluster _ _ _ (next_kept Backup c.args.geo.now.clusters (λ k. 2 ^ (30 + 2 * k - c.args.geo.now.cluster_bits)) c.loop-k.k) c.loop-k.invariant c.in_ok-add_backup.ensures
