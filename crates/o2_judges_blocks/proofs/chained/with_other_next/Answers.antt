-- One leaf more.
use Rattle.std.proofs.Common.{◌≡◌, ◌++◌, [], drop, sym, ◌∙◌, ap}
use Rattle.std.proofs.lemmas.List.{drop_all, append-nil}
use Rattle.o2_judges_blocks.specs.LeafRows.{faults_of_leaves}
use Rattle.o2_judges_blocks.proofs.LeavesTold.{leaf_judged}
use Rattle.o2_judges_blocks.proofs.chained.with_other_next.Goals as goal

pub loop-k-preserved : goal.loop-k-preserved
loop-k-preserved c = leaf_judged c.args.leaves.now c.loop-k.k _ c.loop-k.found.items c.judge_leaf.new.found.items _ c.loop-k-test.true c.in_ok-judge_leaf.ensures c.loop-k.invariant

pub returns : goal.returns
returns c =
    let leaves = c.args.leaves.now in
    let none : faults_of_leaves (drop c.loop-k.k leaves) ≡ [] = ap faults_of_leaves (drop_all c.loop-k.k leaves c.loop-k-test.false) in
    sym (append-nil c.loop-k.found.items) ∙ (ap (λ bs. c.loop-k.found.items ++ bs) (sym none) ∙ c.loop-k.invariant)
