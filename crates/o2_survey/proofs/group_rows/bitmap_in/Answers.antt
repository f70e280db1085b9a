-- The bits of a part of the block.
use Rattle.std.proofs.Common.{◌≡◌, ◌+◌, ◌/◌, ◌∙◌, ap, arith, rules}
use Rattle.std.specs.List.{slice_range}
use Rattle.o2_model.specs.Groups.{is_bit_set_in}
use Rattle.o2_survey.proofs.GroupRows.{bits_of_part}
use Rattle.o2_survey.proofs.group_rows.bitmap_in.Goals as goal

pub returns-in-Ok : goal.returns-in-Ok
returns-in-Ok c k low =
    let end = 0x40 + (c.args.bits + 7) / 8 in
    let part : c.from-in-Ok.result ≡ slice_range c.args.bytes.now 0x40 end = search rules in
    ap (λ bytes. is_bit_set_in 0 bytes k) part ∙ bits_of_part c.args.bytes.now 0x40 end k (omega (arith, low))
