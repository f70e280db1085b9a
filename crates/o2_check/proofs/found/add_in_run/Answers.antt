-- A run has the cluster once, or not at all.
use Rattle.std.proofs.Common.{◌+◌, ◌-◌, ◌<◌, [], ◌∷◌, ◌++◌, sym, ◌∙◌, ap, arith}
use Rattle.o2_check.proofs.FoundOwners.{run_with, run_behind, run_before, adds_nothing}
use Rattle.o2_check.proofs.found.add_in_run.Goals as goal
use Rattle.o2_check.proofs.found.add_in_run.Goals.{else-start-cluster-via-then-start-cluster+else-cluster-start, else-start-cluster-via-else-start-cluster}

pub returns-in_ok-put : goal.returns-in_ok-put
returns-in_ok-put c =
    c.in_ok-put.ensures.ok
    ∙ ap (λ os. c.args.owners.now.items ++ os) (sym (run_with c.args.owner c.args.start c.args.count c.args.cluster c.if-start-cluster.true (omega (arith, c.if-start-cluster.true, c.if-cluster-start.true))))

pub returns-else-start-cluster : goal.returns-else-start-cluster
returns-else-start-cluster c = elim c.else-start-cluster.branch [
  | else-start-cluster-via-then-start-cluster+else-cluster-start w ↦
      adds_nothing _ c.args.cluster c.args.owners.now.items (run_before c.args.owner c.args.start c.args.count c.args.cluster (omega (arith, w.if-start-cluster.true, w.if-cluster-start.false)))
  | else-start-cluster-via-else-start-cluster w ↦
      adds_nothing _ c.args.cluster c.args.owners.now.items (run_behind c.args.owner c.args.start c.args.count c.args.cluster (omega (arith, w.if-start-cluster.false)))
]
