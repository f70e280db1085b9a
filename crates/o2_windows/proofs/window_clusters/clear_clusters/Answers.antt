-- One bit more.
use Rattle.std.proofs.Common.{◌+◌, ◌++◌, ◌∷◌, [], not, sym, ◌∙◌, ap}
use Rattle.o2_model.specs.Groups.{is_bit_set_in}
use Rattle.o2_windows.proofs.Ranges.{kept_more, passed_more}
use Rattle.o2_windows.proofs.window_clusters.clear_clusters.Goals.{then-not-has_bit+in_ok-put, else-not-has_bit}
use Rattle.o2_windows.proofs.window_clusters.clear_clusters.Goals as goal

pub loop-k-preserved : goal.loop-k-preserved
loop-k-preserved c =
    let k = c.loop-k.k in
    let bits = c.args.bits.now in
    let start = c.args.start in
    elim c.if-not-has_bit.branch [
      | then-not-has_bit+in_ok-put w ↦ kept_more (λ j. not (is_bit_set_in 0 bits j)) (λ j. start + j) k c.args.total c.loop-k.clusters.items c.if-not-has_bit.clusters.items _ c.loop-k-test.true (ap not (sym c.has_bit.ensures ∙ w.if-not-has_bit.true)) c.loop-k.invariant
          (ap (λ found. found.items) w.clusters-is ∙ (w.in_ok-put.ensures.ok ∙ ap (λ n. c.loop-k.clusters.items ++ (start + n) ∷ []) w.from.ensures))
      | else-not-has_bit w ↦ passed_more (λ j. not (is_bit_set_in 0 bits j)) (λ j. start + j) k c.args.total c.loop-k.clusters.items c.if-not-has_bit.clusters.items _ c.loop-k-test.true (ap not (sym c.has_bit.ensures ∙ w.if-not-has_bit.false)) c.loop-k.invariant (ap (λ found. found.items) w.clusters-is)
    ]
