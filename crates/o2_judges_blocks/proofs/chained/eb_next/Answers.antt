-- The leaves tell where the next one is.
use Rattle.std.proofs.Common.{◌∙◌, ap}
use Rattle.std.proofs.lemmas.Result.{IfOk-weaker}
use Rattle.o2_judges_blocks.specs.LeafRows.{faults_of_leaves}
use Rattle.o2_judges_blocks.proofs.LeavesTold.{next_told}
use Rattle.o2_judges_blocks.proofs.chained.eb_next.Goals as goal

pub returns : goal.returns
returns c = IfOk-weaker c.with_other_next.result _ _
    (λ found is v t are. is ∙ (ap faults_of_leaves (c.as_slice.ensures.value ∙ c.in_ok-leaves.ensures) ∙ next_told v t c.args.blocks.now are))
    c.with_other_next.ensures
