-- The record at hand is shared evenly, or it is not.
use Rattle.std.proofs.Common.{sym, ◌∙◌}
use Rattle.o2_model.specs.declared.placed_refcount.PlacedRefcount.{PlacedRefcount}
use Rattle.o2_judges_refcount.specs.TreeRows.{is_shared}
use Rattle.o2_judges_refcount.proofs.Ranges.{item_passes, item_fails}
use Rattle.o2_judges_refcount.proofs.root_covers.are_shared_evenly.Goals as goal

abbrev none : PlacedRefcount
none = record { block = 0; fields = record { cpos = 0; clusters = 0; refcount = 0 } }

pub returns-then-not-branch : goal.returns-then-not-branch
returns-then-not-branch c =
    sym (item_fails (λ p. is_shared c.args.references.now c.args.root p.fields) c.args.records.now c.loop-placed.placed-index none c.loop-placed-test.true
    (sym c.in_ok-is_shared_evenly.ensures ∙ c.if-not-branch.true)) ∙ c.loop-placed.invariant

pub loop-placed-preserved : goal.loop-placed-preserved
loop-placed-preserved c =
    sym (item_passes (λ p. is_shared c.args.references.now c.args.root p.fields) c.args.records.now c.loop-placed.placed-index none c.loop-placed-test.true
    (sym c.in_ok-is_shared_evenly.ensures ∙ c.if-not-branch.false)) ∙ c.loop-placed.invariant
