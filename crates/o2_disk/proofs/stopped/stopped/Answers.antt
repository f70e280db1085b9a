use Rattle.std.proofs.Common.{◌∙◌, ℕ, List, ap, sym}
use Rattle.std.specs.Ordering.{nat_cmp, eq_by_cmp}
use Rattle.std.specs.List.{list_any}
use Rattle.o2_disk.specs.Calls.{run, start, chosen}
use Rattle.o2_disk.proofs.Left.{chosen_untouched, keys_begin, keys_step}
use Rattle.o2_disk.proofs.stopped.stopped.Goals as goal

pub loop-s-init : goal.loop-s-init
loop-s-init c = keys_begin c.args.held.now c.new-maps.result.base c.into_iter-s-iterator.result (λ q. chosen c.args.choice q (run (start c.args.base.now) c.args.calls.now q))
    (λ q. c.keys-s-items.ensures.has q ∙ ap (λ (l : List ℕ). list_any (eq_by_cmp nat_cmp q) l) (sym c.into_iter-s-iterator.ensures.into_iter_gives))
    (λ q none. chosen_untouched c.args.base.now c.args.held.now c.args.calls.now c.args.choice q c.requires.untouched c.requires.touched none) c.new-maps.ensures

pub loop-s-preserved : goal.loop-s-preserved
loop-s-preserved c = keys_step c.loop-s.maps.base c.in_ok-maps.maps.base c.in-Some.s.now c.next.new.self c.loop-s.s-iterator (λ q. chosen c.args.choice q (run (start c.args.base.now) c.args.calls.now q))
    c.in-Some.ensures.steps (c.in_ok-maps.ensures.here ∙ c.in_ok-bytes.ensures) c.in_ok-maps.ensures.others c.loop-s.invariant

pub returns : goal.returns
returns c s = c.loop-s.invariant s (ap (λ (l : List ℕ). list_any (eq_by_cmp nat_cmp s) l) c.in-None.ensures.steps.0)
