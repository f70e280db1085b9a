-- One claim more in the list of all.
use Rattle.std.proofs.Common.{sym, ◌∙◌}
use Rattle.std.specs.BTreeMap.{get}
use Rattle.std.specs.Ordering.{nat_cmp}
use Rattle.o2_claims.specs.Owners.{clusters_of, owner_of}
use Rattle.o2_claims.proofs.FirstOwners.{had_owner, new_owner}
use Rattle.o2_claims.proofs.claims.Claims.claim.Goals as goal

pub returns-in-Some-clause-owners : goal.returns-in-Some-clause-owners
unfolding clusters_of owner_of
returns-in-Some-clause-owners c = λ claims are.
    record { each = had_owner claims _ c.args.self.now.clusters (get nat_cmp c.args.self.now.first) c.requires.within are.each c.in-Some.first (sym c.get.ensures.value ∙ sym c.in-Some.ensures) }

pub returns-in-Ok-clause-owners : goal.returns-in-Ok-clause-owners
unfolding clusters_of owner_of
returns-in-Ok-clause-owners c = λ claims are.
    let updates = c.in-Ok.ensures.updates in
    record {
      each =
          new_owner claims _ c.args.self.now.clusters (get nat_cmp c.args.self.now.first) c.requires.within are.each (get nat_cmp c.insert.new.self)
          (sym c.get.ensures.value ∙ sym c.in_default.ensures)
          updates.1
          updates.2;
    }
