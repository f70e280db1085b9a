-- A claim beyond the volume is none.
use Rattle.std.proofs.Common.{arith}
use Rattle.o2_judges_windows.proofs.Claimed.{claim_beyond}
use Rattle.o2_judges_windows.proofs.claiming.claim_once.Goals as goal

pub returns-then-clusters-cluster-clause-owners : goal.returns-then-clusters-cluster-clause-owners
returns-then-clusters-cluster-clause-owners c before are =
    claim_beyond before (record { owner = c.args.owner; cluster = c.args.cluster }) c.args.claims.now (omega (arith, c.clusters.ensures, c.if-clusters-cluster.true)) are
