-- The block that goes lies in the run.
use Rattle.std.proofs.Common.{◌≡◌, ℕ, List, length, sym, ◌∙◌, subst, arith, nat_cmp}
use Rattle.std.proofs.lemmas.Map.Views.{All-map-remove_entry}
use Rattle.std.specs.BTreeMap.{is_at}
use Rattle.std.specs.Map.{values_of}
use Rattle.std.specs.Prelude.{All}
use Rattle.o2_view.proofs.Places.{apart_keys}
use Rattle.o2_view.proofs.plan.overlay.drop_blocks.Goals as goal

pub loop-b-preserved-else-end-b : goal.loop-b-preserved-else-end-b
loop-b-preserved-else-end-b c = (
  λ b out. c.remove.ensures.updates.2 b (apart_keys c.in-Some.b b (λ same. let past = out (omega (arith, same, c.in-Some.ensures.found.0)) in omega (arith, past, same, c.if-end-b.false))) ∙ c.loop-b.invariant.0 b out,
  λ size all. subst (λ (es : List (ℕ × List ℕ)). All (λ bytes. length bytes ≡ size) (values_of es)) (sym c.remove.ensures.entries)
      (All-map-remove_entry (is_at (nat_cmp c.in-Some.b)) (λ e. e.1) (λ bytes. length bytes ≡ size) _ (c.loop-b.invariant.1 size all)),
)
