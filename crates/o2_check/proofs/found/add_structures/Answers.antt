-- The four kinds of structures, one behind the other.
use Rattle.std.proofs.Common.{◌≡◌, flat_map, ◌++◌, subst, refl}
use Rattle.std.proofs.lemmas.Result.{on_ok_weaker}
use Rattle.o2_model.specs.Volume.{Volume}
use Rattle.o2_model.specs.Claims.{structure_claims}
use Rattle.o2_tables.specs.Rows.{IsGroupTable}
use Rattle.o2_judges_claims.specs.ClaimRows.{group_claims}
use Rattle.o2_judges_claims.proofs.ClaimsTold.{structures_told}
use Rattle.o2_check.specs.OwnersAt.{AddsOwners}
use Rattle.o2_check.proofs.FoundOwners.{adds_next}
use Rattle.o2_check.proofs.found.add_structures.Goals as goal

pub returns : goal.returns
returns c =
    let old = c.args.owners.now.items in
    let new = c.add_groups.new.owners.items in
    on_ok_weaker {P = AddsOwners (flat_map (group_claims c.args.geo.now) c.args.groups.now) c.args.cluster _ new} {Q = (v : Volume) → v.geo ≡ c.args.geo.now → IsGroupTable v c.args.groups.now → AddsOwners (structure_claims v) c.args.cluster old new} _
    (λ adds v same table. subst (λ ks. AddsOwners ks c.args.cluster old new) (structures_told v _ _ same table)
    (adds_next _ _ _ c.args.cluster _ _ _ refl (adds_next _ _ _ c.args.cluster _ _ _ refl (adds_next _ _ _ c.args.cluster _ _ _ refl c.in_ok-add_super.ensures c.in_ok-add_descriptors.ensures) c.in_ok-add_backups.ensures) adds))
    c.add_groups.ensures
