-- Names that are too short, or that end with too great a number.
use Rattle.std.proofs.Common.{◌≤◌, arith}
use Rattle.o2_judges_system.proofs.SlotNames.{short_is_none, many_are_none}
use Rattle.o2_judges_system.proofs.slot_names.slot_in_name.Goals as goal

pub returns-in_default : goal.returns-in_default
returns-in_default c = short_is_none c.args.file c.args.name.now c.in_default.ensures.none

pub returns-in_default-try_from : goal.returns-in_default-try_from
returns-in_default-try_from c =
    let is = c.in-Some.ensures.some in
    let many : 65536 ≤ c.in-Some.number = omega (arith, c.in_default-try_from.ensures) in
    many_are_none c.args.file c.args.name.now (omega (arith, is, many))
