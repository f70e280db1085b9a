-- The rows tell it.
use Rattle.std.proofs.Common.{◌++◌, ◌==◌, map, ◌∙◌, ap}
use Rattle.o2_model.specs.Orders.{rising, later_like}
use Rattle.o2_judges_inodes.proofs.OrphansTold.{entries_told}
use Rattle.o2_judges_inodes.proofs.orphans.orphan_entry.Goals as goal

pub returns-in-Ok-extend_from_slice : goal.returns-in-Ok-extend_from_slice
returns-in-Ok-extend_from_slice c = λ v table own listed.
    let numbers = c.as_slice.ensures.value ∙ c.in-Ok.ensures in
    let later = c.in_ok-again.ensures.later ∙ ap (λ xs. rising (map (λ x. x.place) (later_like (λ x y. x.number == y.number) xs))) numbers in
    let joined = c.in-Ok-extend_from_slice.ensures.items ∙ ap (λ ns. c.in_ok-found.found.items ++ ns) c.as_slice-2.ensures.value in
    ap rising joined ∙ entries_told v _ _ _ listed (c.in_ok-found.ensures v table own) later
