-- The block stands among the blocks, which count before the zeros.
use Rattle.std.proofs.Common.{◌≡◌, ℕ, List, [], length, refl, sym, ◌∙◌, ap, subst}
use Rattle.std.proofs.lemmas.Map.Views.{All-values-insert_entry}
use Rattle.std.specs.Map.{values_of}
use Rattle.std.specs.Ordering.{nat_cmp}
use Rattle.std.specs.Prelude.{All}
use Rattle.o2_view.specs.Plans.{AreWhole, planned_at}
use Rattle.o2_view.proofs.Places.{apart_keys}
use Rattle.o2_view.proofs.PlannedBlocks.{home_planned, same_planned}
use Rattle.o2_view.proofs.plan.overlay.Overlay.put_block.Goals as goal

pub returns-in-Ok-clause-here : goal.returns-in-Ok-clause-here
returns-in-Ok-clause-here c size = home_planned size _ c.args.b c.args.bytes c.in-Ok.ensures.updates.1

pub returns-in-Ok-clause-others : goal.returns-in-Ok-clause-others
returns-in-Ok-clause-others c size q apart =
    same_planned size (record { fresh = []; zeros = c.self.inside.zeros; home = c.insert.new.self.entries }) (record { fresh = []; zeros = c.self.inside.zeros; home = c.self.inside.blocks.entries }) q
    (c.in-Ok.ensures.updates.2 q (apart_keys c.args.b q apart)) refl refl
    ∙ ap (λ p. planned_at size p q) c.self.view_is

pub returns-in-Ok-clause-whole : goal.returns-in-Ok-clause-whole
returns-in-Ok-clause-whole c size whole long =
    let before = subst (AreWhole size) (sym c.self.view_is) whole in
    record {
      fresh = before.fresh;
      home = subst (λ (es : List (ℕ × List ℕ)). All (λ bytes. length bytes ≡ size) (values_of es)) (sym c.in-Ok.ensures.entries) (All-values-insert_entry nat_cmp c.args.b c.args.bytes (λ bytes. length bytes ≡ size) c.self.inside.blocks.entries before.home long);
    }
