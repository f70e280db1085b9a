-- The first of the three kinds that there is.
use Rattle.std.proofs.Common.{◌≡◌, ℕ, None, List, sym, ◌∙◌, ap}
use Rattle.std.specs.Prelude.{option_map}
use Rattle.o2_model.specs.declared.oddity.Oddity.{Oddity}
use Rattle.o2_model.specs.declared.oddity.Oddity.TheVariants.{DioOrphan}
use Rattle.o2_model.specs.Orders.{first_of, rising}
use Rattle.o2_tables.specs.declared.inodes.InodeRow.{InodeRow}
use Rattle.o2_check.specs.Oddities.{first_marked}
use Rattle.o2_check.proofs.FirstOddity.{group_first, attributes_first, orphan_or_none}
use Rattle.o2_check.proofs.oddities.unsupported_in.Goals as goal

pub returns-in-Some : goal.returns-in-Some
returns-in-Some c v are =
    let tables = c.args.tables.now in
    group_first v tables.skeleton.discontiguous.items tables.inodes.rows.items are.skeleton.discontiguous are.inodes c.in-Some.block
    (ap (λ (ns : List ℕ). first_of (rising ns)) (sym c.deref.ensures.value) ∙ (sym c.in_ok-block.ensures ∙ c.in-Some.is))

pub returns-in-Some-first_in : goal.returns-in-Some-first_in
returns-in-Some-first_in c v are =
    let tables = c.args.tables.now in
    attributes_first v tables.skeleton.discontiguous.items tables.inodes.rows.items are.skeleton.discontiguous are.inodes c.in-Some-first_in.block
    (ap (λ (ns : List ℕ). first_of (rising ns)) (sym c.deref.ensures.value) ∙ (sym c.in_ok-block.ensures ∙ c.in_default.is))
    (ap first_of (sym are.judged.attributes) ∙ (ap first_of (sym c.deref-2.ensures.value) ∙ (sym c.first_in.ensures ∙ c.in-Some-first_in.is)))

pub returns-in-Some-first_orphan : goal.returns-in-Some-first_orphan
returns-in-Some-first_orphan c v are =
    let tables = c.args.tables.now in
    ap (option_map (λ (b : ℕ). (DioOrphan, b))) (sym c.in-Some-first_orphan.is ∙ (c.first_orphan.ensures ∙ ap first_marked c.deref-3.ensures.value))
    ∙ orphan_or_none v tables.skeleton.discontiguous.items tables.inodes.rows.items are.skeleton.discontiguous are.inodes
    (ap (λ (ns : List ℕ). first_of (rising ns)) (sym c.deref.ensures.value) ∙ (sym c.in_ok-block.ensures ∙ c.in_default.is))
    (ap first_of (sym are.judged.attributes) ∙ (ap first_of (sym c.deref-2.ensures.value) ∙ (sym c.first_in.ensures ∙ c.in_default-first_in.is)))

pub returns : goal.returns
returns c v are =
    let tables = c.args.tables.now in
    ap (option_map (λ (b : ℕ). (DioOrphan, b))) (sym c.in_default-first_orphan.is ∙ (c.first_orphan.ensures ∙ ap first_marked c.deref-3.ensures.value))
    ∙ orphan_or_none v tables.skeleton.discontiguous.items tables.inodes.rows.items are.skeleton.discontiguous are.inodes
    (ap (λ (ns : List ℕ). first_of (rising ns)) (sym c.deref.ensures.value) ∙ (sym c.in_ok-block.ensures ∙ c.in_default.is))
    (ap first_of (sym are.judged.attributes) ∙ (ap first_of (sym c.deref-2.ensures.value) ∙ (sym c.first_in.ensures ∙ c.in_default-first_in.is)))
