-- Each item is told where its number was met.
use Rattle.std.proofs.Common.{◌≡◌, ◌==◌, ◌++◌, ◌+◌, ◌≤◌, ℕ, Bool, false, List, length, map, drop, get_or, refl, sym, ◌∙◌, ap}
use Rattle.std.proofs.lemmas.List.{append-nil, drop_more, drop_all}
use Rattle.std.specs.List.{list_any}
use Rattle.std.specs.Ordering.{nat_cmp, is_eq}
use Rattle.o2_model.specs.Orders.{rising}
use Rattle.o2_tally.specs.Again.{those_again, has_number}
use Rattle.o2_tally.specs.declared.again.Numbered.{Numbered}
use Rattle.o2_tally.proofs.Agains.{told_again, same_again, step_met, step_new, was_met, was_new}
use Rattle.o2_tally.proofs.again.later_numbers.Goals as goal

abbrev alike : Numbered → Numbered → Bool
alike x y = x.number == y.number

abbrev place : Numbered → ℕ
place x = x.place

abbrev none_met : Numbered → Bool
none_met x = false

-- none is told when none is left
none_left : (told : List ℕ) (met : Numbered → Bool) (xs : List Numbered) (i : ℕ) → length xs ≤ i → told ++ map place (those_again alike met (drop i xs)) ≡ told
none_left told met xs i past = ap (λ ys. told ++ map place (those_again alike met ys)) (drop_all i xs past) ∙ append-nil told

pub returns-clause-told : goal.returns-clause-told
returns-clause-told c =
    sym (none_left c.loop-item.again.items (λ x. has_number c.loop-item.met x.number) c.args.items.now c.loop-item.item-index c.loop-item-test.false) ∙ c.loop-item.invariant

pub returns-clause-later : goal.returns-clause-later
returns-clause-later c = ap (λ ns. rising ns) (returns-clause-told c) ∙ told_again alike place none_met c.args.items.now (λ x. refl)

pub loop-item-init : goal.loop-item-init
loop-item-init c =
    let items = c.args.items.now in
    let met = λ (x : Numbered). has_number c.new-met.result x.number in
    ap (λ ns. ns ++ map place (those_again alike met items)) c.new-again.ensures.items
    ∙ ap (λ xs. map place xs) (same_again alike met none_met (λ x. ap (λ ks. list_any (λ k. is_eq (nat_cmp x.number k)) ks) c.new-met.ensures.empty) items)

pub loop-item-preserved : goal.loop-item-preserved
loop-item-preserved c =
    let xs = c.args.items.now in
    let i = c.loop-item.item-index in
    let d : Numbered = record { number = 0; place = 0 } in
    let x = get_or xs i d in
    let met = λ (y : Numbered). has_number c.loop-item.met y.number in
    let now = λ (y : Numbered). has_number c.add_number.new.numbers y.number in
    let front = c.loop-item.again.items in
    let next = λ (y : Numbered). c.in_ok-add_number.ensures.put y.number in
    let before = ap (λ ys. front ++ map place (those_again alike met ys)) (sym (drop_more xs i d c.loop-item-test.true)) ∙ c.loop-item.invariant in
    elim c.if-not-branch.branch [
      | goal.then-not-branch+in_ok-put w ↦
          ap (λ v. v.items ++ map place (those_again alike now (drop (i + 1) xs))) w.again-is
          ∙ (ap (λ ns. ns ++ map place (those_again alike now (drop (i + 1) xs))) w.in_ok-put.ensures.ok
          ∙ (step_met alike place met now x (drop (i + 1) xs) front (was_met _ _ c.in_ok-add_number.ensures.new w.if-not-branch.true) next
          ∙ before))
      | goal.else-not-branch w ↦
          ap (λ v. v.items ++ map place (those_again alike now (drop (i + 1) xs))) w.again-is
          ∙ (step_new alike place met now x (drop (i + 1) xs) front (was_new _ _ c.in_ok-add_number.ensures.new w.if-not-branch.false) next
          ∙ before)
    ]
