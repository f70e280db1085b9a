-- The last group below the block tells.
use Rattle.std.proofs.Common.{sym, ◌∙◌, arith}
use Rattle.std.specs.BTreeMap.{get}
use Rattle.std.specs.Ordering.{nat_cmp}
use Rattle.o2_judges_origin.proofs.GroupsFound.{found_there, found_none, found_before}
use Rattle.o2_judges_origin.proofs.placed.PlacedGroups.group_of.Goals as goal

pub returns-in_err-place-clause-told : goal.returns-in_err-place-clause-told
returns-in_err-place-clause-told c = λ v is_use are. c.from_residual.ensures ∙ sym (found_none v is_use (get nat_cmp c.args.self.now.places) are.kept are.of_blocks c.args.b c.in_err-place.ensures.none)

pub returns-then-b-place-clause-told : goal.returns-then-b-place-clause-told
returns-then-b-place-clause-told c = λ v is_use are.
    let found = c.in_ok-place.ensures.found in
    sym (found_there v is_use (get nat_cmp c.args.self.now.places) are.kept are.of_blocks c.args.b c.in_ok-place.place.block (record { bits = c.in_ok-place.place.bits; slot = c.in_ok-place.place.slot }) found.1 found.0
    (omega (arith, found.0, c.if-b-place.true)))

pub returns-else-b-place-clause-told : goal.returns-else-b-place-clause-told
returns-else-b-place-clause-told c = λ v is_use are.
    let found = c.in_ok-place.ensures.found in
    sym (found_before v is_use (get nat_cmp c.args.self.now.places) are.kept are.of_blocks c.args.b c.in_ok-place.place.block (record { bits = c.in_ok-place.place.bits; slot = c.in_ok-place.place.slot }) found.1 found.0
    c.in_ok-place.ensures.last (omega (arith, found.0, c.if-b-place.false)))
