-- One cluster more.
use Rattle.std.proofs.Common.{◌+◌, ◌++◌, map, subst, sym, ◌∙◌, ap}
use Rattle.std.specs.List.{range_with_len}
use Rattle.std.proofs.lemmas.List.{append_assoc}
use Rattle.std.proofs.lemmas.List.FromFn.{map-range_with_len_more}
use Rattle.o2_judges_refcount.specs.References.{in_tree, AreTimes}
use Rattle.o2_judges_refcount.proofs.sharing.add_clusters.Goals as goal

pub loop-k-preserved : goal.loop-k-preserved
loop-k-preserved c = λ all are.
    let f = in_tree c.args.root in
    let front = map f (range_with_len c.from-start.result c.loop-k.k) in
    subst (λ cs. AreTimes cs c.add.new.self) (append_assoc all front _ ∙ ap (λ cs. all ++ cs) (sym (map-range_with_len_more f c.from-start.result c.loop-k.k _ (ap (λ k. c.from-start.result + k) (sym c.from.ensures)))))
    (c.in_ok-add.ensures (all ++ front) (c.loop-k.invariant all are))
