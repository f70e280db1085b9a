-- Nothing is there but the runs.
use Rattle.std.proofs.Common.{◌≡◌, ◌-◌, ◌*◌, ◌^◌, [], ◌++◌, map, ◌∙◌, ap}
use Rattle.o2_view.specs.declared.run.Run.{Run as Clusters}
use Rattle.o2_chain.proofs.Walking.{keeps_start}
use Rattle.o2_chain.proofs.walked.start.Goals as goal

pub returns-clause-keeps : goal.returns-clause-keeps
returns-clause-keeps c v same a =
    let groups : c.count_as_walked.new.walked.groups.items ≡ [] = search in
    let faults : c.count_as_walked.new.walked.faults.items ≡ [] = search in
    let seen : c.count_as_walked.new.walked.seen ≡ [] = search in
    let starts = map (λ (run : Clusters). (run.start * 2 ^ (c.args.geo.now.cluster_bits - c.args.geo.now.block_bits), 1)) c.args.before.now in
    let clusters = map (λ (run : Clusters). (run.start, run.clusters)) c.args.before.now in
    keeps_start v c.args.geo.now same c.requires a c.args.before.now c.count_as_walked.new.walked groups faults seen
    (c.in_ok-count_as_walked.ensures.starts ∙ ap (λ runs. runs ++ starts) c.new-4.ensures)
    (c.in_ok-count_as_walked.ensures.clusters ∙ ap (λ runs. runs ++ clusters) c.new-5.ensures)
