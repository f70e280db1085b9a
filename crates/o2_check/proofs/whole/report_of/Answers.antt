-- The report tells what was found.
use Rattle.std.proofs.Common.{map, ℕ, List, sym, ◌∙◌, ap, subst}
use Rattle.o2_model.specs.Claims.{claims_of}
use Rattle.o2_model.specs.Checks.OrphanEntry.{orphan_entries}
use Rattle.o2_claims.specs.Owners.{AreOwners, clusters_of}
use Rattle.o2_tally.specs.Gathered.{count_of}
use Rattle.o2_tally.specs.declared.counts.Counts.{Counts}
use Rattle.o2_tree.specs.declared.directories.EntryRow.{EntryRow}
use Rattle.o2_check.proofs.FirstPairs.{further_fail}
use Rattle.o2_check.proofs.OrphansTold.{same_inodes}
use Rattle.o2_check.proofs.whole.report_of.Goals as goal

pub returns-clause-told : goal.returns-clause-told
returns-clause-told c v numbers holds are =
    let found = c.in_ok-findings.ensures v numbers are in
    record {
      pairs = c.new.ensures.pairs ∙ (c.from-pairs.ensures ∙ (c.in_ok-pairs.ensures v numbers holds found ∙ further_fail v holds));
      whole = λ _. record {
        supported = sym (c.in_ok-what.ensures v are) ∙ c.in_default.is;
        links = λ b. ap (λ (links : Counts). count_of links b) c.new.ensures.links ∙ found.walk.tree.links.each b;
        orphans =
            c.new.ensures.orphans
            ∙ (c.in_ok-orphans.ensures
            ∙ (ap (map (λ (e : EntryRow). e.inode)) c.deref.ensures.value ∙ (ap (map (λ (e : EntryRow). e.inode)) found.orphans.listed ∙ same_inodes (orphan_entries v))));
        clusters = ap clusters_of c.new.ensures.claims ∙ found.judged.clusters;
        claims = subst (AreOwners (claims_of v)) (sym c.new.ensures.claims) found.judged.owners;
      };
    }
