-- What structures and inodes claim, and where they claim nothing the first owner.
use Rattle.std.proofs.Common.{◌≡◌, ℕ, ◌==◌, List, ◌++◌, length, sym, ◌∙◌, ap, subst}
use Rattle.std.proofs.lemmas.Result.{IfOk-weaker}
use Rattle.o2_model.specs.declared.claim.Owner.{Owner}
use Rattle.o2_model.specs.Volume.{Volume}
use Rattle.o2_model.specs.Claims.{structure_claims, inode_claims}
use Rattle.o2_tables.specs.Rows.{IsGroupTable, IsInodeTable}
use Rattle.o2_check.specs.OwnersAt.{owners_in, AddsOwners}
use Rattle.o2_check.specs.WholeTables.{AreTables}
use Rattle.o2_check.proofs.OwnersAt.{owners_append}
use Rattle.o2_check.proofs.LaterClaims.{found_told, first_told}
use Rattle.o2_check.proofs.cluster_owners.owners_by.Goals as goal

pub returns-then-is_empty : goal.returns-then-is_empty
returns-then-is_empty c = IfOk-weaker c.first_owner.result _ _
    (λ owners told v same tables.
    told v same tables
    ∙ first_told v c.args.cluster c.add_inodes.new.owners.items
    (subst (λ n. AddsOwners (inode_claims v) n c.add_structures.new.owners.items c.add_inodes.new.owners.items) c.from-2.ensures (c.in_ok-add_inodes.ensures v (subst (IsInodeTable v) (sym c.deref.ensures.value) tables.inodes))
    ∙ ap (λ os. os ++ owners_in (inode_claims v) c.args.cluster) (subst (λ n. AddsOwners (structure_claims v) n c.new-owners.result.items c.add_structures.new.owners.items) c.from.ensures (c.in_ok-add_structures.ensures v same (subst (IsGroupTable v) (sym c.as_slice-groups.ensures) tables.skeleton.groups)) ∙ ap (λ os. os ++ owners_in (structure_claims v) c.args.cluster) c.new-owners.ensures.items)
    ∙ sym (owners_append (structure_claims v) (inode_claims v) c.args.cluster))
    (ap (λ n. n == 0) (sym c.add_inodes.new.owners.ok.0) ∙ sym c.if-is_empty.ensures))
    c.first_owner.ensures

pub returns : goal.returns
returns c v same tables =
    c.from-3.ensures
    ∙ found_told v c.args.cluster c.add_inodes.new.owners.items
    (subst (λ n. AddsOwners (inode_claims v) n c.add_structures.new.owners.items c.add_inodes.new.owners.items) c.from-2.ensures (c.in_ok-add_inodes.ensures v (subst (IsInodeTable v) (sym c.deref.ensures.value) tables.inodes))
    ∙ ap (λ os. os ++ owners_in (inode_claims v) c.args.cluster) (subst (λ n. AddsOwners (structure_claims v) n c.new-owners.result.items c.add_structures.new.owners.items) c.from.ensures (c.in_ok-add_structures.ensures v same (subst (IsGroupTable v) (sym c.as_slice-groups.ensures) tables.skeleton.groups)) ∙ ap (λ os. os ++ owners_in (structure_claims v) c.args.cluster) c.new-owners.ensures.items)
    ∙ sym (owners_append (structure_claims v) (inode_claims v) c.args.cluster))
    (ap (λ n. n == 0) (sym c.add_inodes.new.owners.ok.0) ∙ sym c.if-is_empty.ensures)
