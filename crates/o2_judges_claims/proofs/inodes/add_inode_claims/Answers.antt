-- The rows tell it.
use Rattle.std.proofs.Common.{flat_map, subst}
use Rattle.std.proofs.lemmas.Result.{on_ok_weaker}
use Rattle.o2_model.specs.Volume.{Volume}
use Rattle.o2_model.specs.Claims.{inode_claims}
use Rattle.o2_tables.specs.Rows.{IsInodeTable}
use Rattle.o2_judges_claims.specs.Adding.{AddsClaims}
use Rattle.o2_judges_claims.specs.ClaimRows.{row_claims}
use Rattle.o2_judges_claims.proofs.ClaimsTold.{inodes_told}
use Rattle.o2_judges_claims.proofs.inodes.add_inode_claims.Goals as goal

pub returns-clause-owners : goal.returns-clause-owners
returns-clause-owners c =
    let inodes = c.args.inodes.now in
    let old = c.args.claims.now in
    let new = c.claim_rows.new.claims in
    on_ok_weaker {P = AddsClaims (flat_map row_claims inodes) old new} {Q = (v : Volume) → IsInodeTable v inodes → AddsClaims (inode_claims v) old new} _
    (λ adds v table. subst (λ ks. AddsClaims ks old new) (inodes_told v inodes table) adds)
    c.claim_rows.ensures.owners
