-- The last span up to the block tells.
use Rattle.std.proofs.Common.{◌≡◌, inl, inr, ℕ, ◌<◌, ◌≤◌, nat_lt, true, false, sym, ◌∙◌, ap, arith}
use Rattle.std.proofs.lemmas.Bool.{cases_lt}
use Rattle.std.proofs.lemmas.Bool.Decides.{nat_tests}
use Rattle.std.specs.BTreeMap.{get}
use Rattle.std.specs.Ordering.{nat_cmp}
use Rattle.o2_view.specs.Plans.{is_in_runs}
use Rattle.o2_view.proofs.Spans.{has_span}
use Rattle.o2_view.proofs.run_set.RunSet.has.Goals as goal

pub returns-in-Some : goal.returns-in-Some
returns-in-Some c =
    let told = has_span c.self.inside.runs.items (get nat_cmp c.self.inside.ends) c.args.b c.in-Some.field-0-0 c.in-Some.end c.self.invariant.spans c.in-Some.ensures.found.1 c.in-Some.ensures.found.0 c.in-Some.ensures.last in
    elim (cases_lt c.args.b c.in-Some.end) [
      | inl within ↦ is_below c.args.b c.in-Some.end within ∙ (sym (told.0 within) ∙ ap (λ runs. is_in_runs runs c.args.b) c.self.view_is)
      | inr past ↦ is_not_below c.args.b c.in-Some.end past ∙ (sym (told.1 past) ∙ ap (λ runs. is_in_runs runs c.args.b) c.self.view_is)
    ]
  where
    is_below : (a b : ℕ) → a < b → nat_lt a b ≡ true
    is_below a b h = grind (arith, nat_tests)

    is_not_below : (a b : ℕ) → b ≤ a → nat_lt a b ≡ false
    is_not_below a b h = grind (arith, nat_tests)
