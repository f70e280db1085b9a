-- What was told, and what is told of the items that are left.
use Rattle.std.proofs.Common.{◌≡◌, false, ◌==◌, ◌++◌, map, drop}
use Rattle.o2_tally.specs.Again.{those_again, has_number}
use Rattle.o2_tally.proofs.again.later_numbers.Given as goal

abbrev pub invariant-loop-item : goal.invariant-loop-item
invariant-loop-item l =
    l.again.items ++ map (λ x. x.place) (those_again (λ x y. x.number == y.number) (λ x. has_number l.met x.number) (drop l.item-index l.items))
    ≡ map (λ x. x.place) (those_again (λ x y. x.number == y.number) (λ x. false) l.items)
