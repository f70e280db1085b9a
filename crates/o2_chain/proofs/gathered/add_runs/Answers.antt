-- One group more.
use Rattle.std.proofs.Common.{◌++◌, ◌∷◌, [], map, take, get_or, sym, ◌∙◌, ap, append_assoc}
use Rattle.std.proofs.lemmas.List.{map_more}
use Rattle.o2_chain.specs.Whole.{run_of_group}
use Rattle.o2_chain.specs.declared.group.Group.{Group}
use Rattle.o2_chain.proofs.gathered.add_runs.Goals as goal

pub loop-group-preserved : goal.loop-group-preserved
loop-group-preserved c =
    let i = c.loop-group.group-index in
    let geo = c.args.geo.now in
    let d : Group = record { chain = 0; block = 0; bits = 0 } in
    let old = c.args.runs.now.items in
    let g = get_or c.args.met.now i d in
    c.in_ok-add_run.ensures
    ∙ (ap (λ runs. runs ++ run_of_group geo g ∷ []) c.loop-group.invariant
    ∙ (append_assoc old (map (run_of_group geo) (take i c.args.met.now)) (run_of_group geo g ∷ [])
    ∙ ap (λ runs. old ++ runs) (sym (map_more (run_of_group geo) c.args.met.now i d c.loop-group-test.true))))
