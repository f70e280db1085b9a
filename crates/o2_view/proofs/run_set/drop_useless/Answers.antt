-- A span that ends no later goes, and the first that ends later is followed by such alone.
use Rattle.std.proofs.Common.{arith, nat_cmp}
use Rattle.std.specs.BTreeMap.{get}
use Rattle.o2_view.proofs.Spans.{drops_span, spans_again, later_ones}
use Rattle.o2_view.proofs.Places.{apart_keys}
use Rattle.o2_view.proofs.run_set.drop_useless.Goals as goal

pub returns-then-end-last : goal.returns-then-end-last
returns-then-end-last c runs adding =
    let now = c.loop-next.invariant runs adding in
    spans_again runs c.args.first c.args.end (get nat_cmp c.loop-next.ends) now (later_ones runs c.args.first c.args.end _ now c.in-Some.next c.in-Some.last c.in-Some.ensures.found.0 c.in-Some.ensures.found.1 c.in-Some.ensures.first c.if-end-last.true)

pub loop-next-preserved : goal.loop-next-preserved
loop-next-preserved c runs adding =
    drops_span runs c.args.first c.args.end (get nat_cmp c.loop-next.ends) (c.loop-next.invariant runs adding) (get nat_cmp c.remove.new.self) c.in-Some.next c.in-Some.last c.in-Some.ensures.found.1 c.in-Some.ensures.found.0 c.if-end-last.false
    c.remove.ensures.updates.1 (λ q ne. c.remove.ensures.updates.2 q (apart_keys c.in-Some.next q ne))

pub returns : goal.returns
returns c runs adding =
    let now = c.loop-next.invariant runs adding in
    spans_again runs c.args.first c.args.end (get nat_cmp c.loop-next.ends) now (λ t e at behind. let none = rw c.in_default.is at c.span_behind.ensures.none in let low = none t e at in absurd (omega (arith, low, behind)))
