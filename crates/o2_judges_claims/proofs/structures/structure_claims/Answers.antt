-- The four kinds of structures, one behind the other.
use Rattle.std.proofs.Common.{subst, []}
use Rattle.o2_claims.specs.Owners.{AreOwners}
use Rattle.o2_judges_claims.proofs.ClaimsTold.{structures_told}
use Rattle.o2_judges_claims.proofs.structures.structure_claims.Goals as goal

pub returns-clause-owners : goal.returns-clause-owners
returns-clause-owners c = λ v same table. subst (λ ks. AreOwners ks c.claim_groups.new.claims) (structures_told v _ _ same table)
    (c.in_ok-claim_groups.ensures.owners _ (c.in_ok-claim_backups.ensures.owners _ (c.in_ok-claim_descriptors.ensures.owners _ (c.in_ok-claim_super.ensures.owners [] c.in_ok-claims.ensures.owners))))
