-- The rows tell it.
use Rattle.std.proofs.Common.{flat_map, subst}
use Rattle.std.proofs.lemmas.Result.{on_ok_weaker}
use Rattle.o2_model.specs.Volume.{Volume}
use Rattle.o2_model.specs.Claims.{inode_claims}
use Rattle.o2_tables.specs.Rows.{IsInodeTable}
use Rattle.o2_judges_claims.specs.ClaimRows.{row_claims}
use Rattle.o2_judges_claims.proofs.ClaimsTold.{inodes_told}
use Rattle.o2_check.specs.OwnersAt.{AddsOwners}
use Rattle.o2_check.proofs.found.add_inodes.Goals as goal

pub returns : goal.returns
returns c =
    let rows = c.args.rows.now in
    let old = c.args.owners.now.items in
    let new = c.add_rows.new.owners.items in
    on_ok_weaker {P = AddsOwners (flat_map row_claims rows) c.args.cluster old new} {Q = (v : Volume) → IsInodeTable v rows → AddsOwners (inode_claims v) c.args.cluster old new} _
    (λ adds v table. subst (λ ks. AddsOwners ks c.args.cluster old new) (inodes_told v rows table) adds)
    c.add_rows.ensures
