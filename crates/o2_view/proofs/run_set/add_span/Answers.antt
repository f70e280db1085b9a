-- Either a span has the run already, or it gets one, and those behind it that end no later go.
use Rattle.std.proofs.Common.{◌≡◌, ℕ, ◌+◌, ◌<◌, ◌≤◌, ◌∷◌, ◌++◌, [], arith, Some}
use Rattle.std.specs.BTreeMap.{get}
use Rattle.std.specs.Ordering.{nat_cmp}
use Rattle.o2_view.proofs.Spans.{adds_none, adds_within, adds_span, same_spans, none_longer}
use Rattle.o2_view.proofs.Places.{apart_keys}
use Rattle.o2_view.proofs.run_set.add_span.Goals.{in-Some+else-end-last, in_default}
use Rattle.o2_view.proofs.run_set.add_span.Goals as goal

pub returns-then-count-eq0-clause-ok : goal.returns-then-count-eq0-clause-ok
returns-then-count-eq0-clause-ok c runs are = adds_none runs c.args.first c.args.count (get nat_cmp c.args.ends.now) are c.if-count-eq0.true

pub returns-then-end-last-clause-ok : goal.returns-then-end-last-clause-ok
returns-then-end-last-clause-ok c runs are =
    adds_within runs c.args.first c.args.count (get nat_cmp c.args.ends.now) are c.in-Some.field-0-0 c.in-Some.last c.in-Some.ensures.found.1 c.in-Some.ensures.found.0 c.if-end-last.true

pub returns-in_default-insert-clause-err : goal.returns-in_default-insert-clause-err
returns-in_default-insert-clause-err c runs are = same_spans runs c.args.ends.now c.insert.new.self c.in_default-insert.ensures.err are

pub returns-clause-ok : goal.returns-clause-ok
returns-clause-ok c runs are =
    let end = get nat_cmp c.args.ends.now in
    let longer : (s e : ℕ) → end s ≡ Some e → s ≤ c.args.first → e < c.args.first + c.args.count = elim c.match-span_up_to.branch [
      | in-Some+else-end-last w ↦ none_longer runs c.args.first c.args.count end are w.in-Some.field-0-0 w.in-Some.last w.in-Some.ensures.found.1 w.in-Some.ensures.last w.if-end-last.false
      | in_default w ↦ λ s e at low. absurd (let none = rw w.in_default.is at c.span_up_to.ensures.none in let behind = none s e at in omega (arith, behind, low))
    ] in
    c.drop_useless.ensures (runs ++ (c.args.first, c.args.count) ∷ [])
    (adds_span runs c.args.first c.args.count end are (get nat_cmp c.insert.new.self) (omega (arith, c.if-count-eq0.false)) longer c.in-Ok.ensures.updates.1 (λ q ne. c.in-Ok.ensures.updates.2 q (apart_keys c.args.first q ne)))
