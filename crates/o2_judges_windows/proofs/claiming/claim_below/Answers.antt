-- One cluster more.
use Rattle.std.proofs.Common.{◌≡◌, ◌-◌, ◌++◌, subst, ◌∙◌, arith}
use Rattle.std.specs.List.{range_with_len}
use Rattle.o2_model.specs.Claims.{claims_by}
use Rattle.o2_claims.specs.Owners.{AreOwners}
use Rattle.o2_judges_windows.proofs.Claimed.{one_more_owned}
use Rattle.o2_judges_windows.proofs.Ranges.{up_to}
use Rattle.o2_judges_windows.proofs.claiming.claim_below.Goals as goal

pub loop-cluster-preserved : goal.loop-cluster-preserved
loop-cluster-preserved c =
    let start = c.args.start in
    let cluster = c.loop-cluster.cluster in
    record {
      low = omega (arith, c.loop-cluster.invariant.low);
      few = omega (arith, c.loop-cluster.invariant.low, c.loop-cluster-test.true);
      clusters = c.claim_once.ensures.clusters ∙ c.loop-cluster.invariant.clusters;
      owners = λ before are.
          one_more_owned c.args.owner before (range_with_len start (cluster - start)) _ cluster c.claim_once.new.claims (up_to start cluster c.loop-cluster.invariant.low)
          (c.in_ok-claim_once.ensures.owners _ (c.loop-cluster.invariant.owners before are));
    }

pub returns-clause-owners : goal.returns-clause-owners
returns-clause-owners c before are =
    let all : c.loop-cluster.cluster - c.args.start ≡ c.args.end - c.args.start = omega (arith, c.loop-cluster.invariant.low, c.loop-cluster.invariant.few, c.loop-cluster-test.false) in
    subst (λ n. AreOwners (before ++ claims_by c.args.owner (range_with_len c.args.start n)) c.loop-cluster.claims) all (c.loop-cluster.invariant.owners before are)
