-- The last span that begins below the end tells.
use Rattle.std.proofs.Common.{◌≡◌, ◌<◌, ◌≤◌, ◌+◌, ℕ, nat_lt, true, arith, subst}
use Rattle.std.proofs.lemmas.Bool.Decides.{nat_tests}
use Rattle.std.specs.BTreeMap.{get}
use Rattle.std.specs.Ordering.{nat_cmp}
use Rattle.o2_view.specs.Plans.{is_in_runs}
use Rattle.o2_view.proofs.Spans.{meets_span}
use Rattle.o2_view.proofs.run_set.RunSet.meets.Goals as goal

is_less : (a b : ℕ) → nat_lt a b ≡ true → a < b
is_less a b h = grind (arith, nat_tests)

pub returns-in-Some-clause-some : goal.returns-in-Some-clause-some
returns-in-Some-clause-some c met =
    subst (λ runs. (b : ℕ) × (c.args.first ≤ b) × (b < c.args.first + c.args.count) × (is_in_runs runs b ≡ true)) c.self.view_is
    (meets_span c.self.inside.runs.items (get nat_cmp c.self.inside.ends) c.args.first c.args.count c.in-Some.field-0-0 c.in-Some.end c.self.invariant.spans c.in-Some.ensures.found.1
    (omega (arith, c.in-Some.ensures.found.0, c.if-count-eq0.false)) (omega (arith, c.if-count-eq0.false)) (is_less c.args.first c.in-Some.end met))
