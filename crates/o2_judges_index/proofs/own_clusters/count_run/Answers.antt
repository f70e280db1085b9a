-- One cluster more.
use Rattle.std.proofs.Common.{◌≡◌, ◌+◌, ◌++◌, [], ◌∷◌, subst, sym, ◌∙◌, ap, arith}
use Rattle.std.specs.List.{range_with_len}
use Rattle.std.proofs.lemmas.List.{append_assoc}
use Rattle.o2_tally.specs.Gathered.{IsCount}
use Rattle.o2_judges_alloc.proofs.Ranges.{range_push}
use Rattle.o2_judges_index.proofs.own_clusters.count_run.Goals as goal

pub loop-k-preserved : goal.loop-k-preserved
loop-k-preserved c = λ ns are.
    let start = c.args.run.start in
    let front = range_with_len start c.loop-k.k in
    let here : c.from.result + c.from-in-loop-k.result ≡ start + c.loop-k.k = omega (arith, c.from.ensures, c.from-in-loop-k.ensures) in
    subst (λ ms. IsCount ms c.add.new.self)
    (append_assoc ns front ((c.from.result + c.from-in-loop-k.result) ∷ []) ∙ ap (λ ms. ns ++ ms) (ap (λ q. front ++ q ∷ []) here ∙ sym (range_push start c.loop-k.k)))
    (c.in_ok-add.ensures.ok (ns ++ front) (c.loop-k.invariant ns are))
