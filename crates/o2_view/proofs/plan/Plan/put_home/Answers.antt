-- The bytes that are added are a block's.
use Rattle.std.proofs.Common.{◌≡◌, ℕ, List, length, sym, subst}
use Rattle.std.specs.Ordering.{nat_cmp}
use Rattle.std.specs.Map.{values_of}
use Rattle.std.specs.Prelude.{All}
use Rattle.std.proofs.lemmas.Map.Views.{All-values-insert_entry}
use Rattle.o2_view.specs.Plans.{AreWhole}
use Rattle.o2_view.proofs.plan.Plan.put_home.Goals as goal

pub returns-in-Ok-clause-whole : goal.returns-in-Ok-clause-whole
returns-in-Ok-clause-whole c size whole long =
    let before = subst (AreWhole size) (sym c.self.view_is) whole in
    record {
      fresh = before.fresh;
      home = subst (λ (es : List (ℕ × List ℕ)). All (λ bytes. length bytes ≡ size) (values_of es)) (sym c.in-Ok.ensures.entries) (All-values-insert_entry nat_cmp _ c.args.bytes (λ bytes. length bytes ≡ size) c.self.inside.home.entries before.home long);
    }
