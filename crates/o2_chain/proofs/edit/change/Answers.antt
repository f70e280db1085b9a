-- The groups that the walk answers are all that there are.
use Rattle.std.proofs.Common.{◌≡◌, true, [], map, sym, ◌∙◌, ap, subst, List}
use Rattle.o2_model.specs.declared.allocator.Group.{Group as Met}
use Rattle.o2_model.specs.Words.{among}
use Rattle.o2_view.specs.Plans.{home_at}
use Rattle.o2_view.specs.declared.run.Run.{Run}
use Rattle.o2_chain.specs.declared.group.Group.{Group}
use Rattle.o2_chain.specs.Edits.{edited_blocks}
use Rattle.o2_chain.specs.Walks.{AreSoundGroups, group_in, judged_as}
use Rattle.o2_chain.proofs.edit.change.Goals as goal

pub returns-clause-alone : goal.returns-clause-alone
returns-clause-alone g c v shows groups sound b out =
    let a = judged_as true c.args.bitmap in
    let none : c.from-none.result ≡ [] = c.from-none.ensures ∙ c.new.ensures.items in
    let walked : AreSoundGroups v a [] c.as_slice.result.now =
    subst (λ (gs : List Group). AreSoundGroups v a [] gs) (sym c.as_slice.ensures) (subst (λ (rs : List Run). AreSoundGroups v a rs c.in_ok-groups.groups) none (c.in_ok-groups.ensures.told v shows).1) in
    let same : map (group_in a) c.as_slice.result.now ≡ map (group_in a) groups = sym walked.met ∙ sound.met in
    c.in_ok-plan_run.ensures.alone v shows.numbers b (ap (λ (gs : List Met). among (edited_blocks v c.args.run a gs) b) same ∙ out)
    ∙ ap (λ p. home_at p b) c.in_ok-groups.ensures.reads.same.plan
