-- The groups of the walk are the volume's.
use Rattle.std.proofs.Common.{map, filter, ◌∙◌, ap}
use Rattle.std.proofs.lemmas.Result.{IfOk-weaker}
use Rattle.o2_model.specs.declared.allocator.Group.{Group}
use Rattle.o2_model.specs.Structures.{is_discontiguous}
use Rattle.o2_survey.proofs.group_table.groups.Goals as goal

pub returns-clause-told : goal.returns-clause-told
returns-clause-told g c = IfOk-weaker c.survey.result _ _
    (λ found rows v shows walked. record { groups = (rows v shows).listed ∙ (c.as_slice.ensures ∙ walked.groups); each = (rows v shows).each })
    c.survey.ensures.rows

pub returns-clause-discontiguous : goal.returns-clause-discontiguous
returns-clause-discontiguous g c = IfOk-weaker c.survey.result _ _
    (λ found are v shows walked. are v shows ∙ ap (λ gs. filter (is_discontiguous v) (map (λ (g : Group). g.block) gs)) (c.as_slice.ensures ∙ walked.groups))
    c.survey.ensures.discontiguous
