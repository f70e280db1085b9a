-- No dinode out of range is an allocator's.
use Rattle.std.proofs.Common.{nat_lt, ◌&&◌, sym, ◌∙◌, ap}
use Rattle.o2_view.specs.Geos.{blocks_of}
use Rattle.o2_survey.proofs.Rows.{none_out_of_range}
use Rattle.o2_survey.proofs.allocator_rows.row_of.Goals as goal

pub returns-then-not-is_block_in_range-clause-none : goal.returns-then-not-is_block_in_range-clause-none
returns-then-not-is_block_in_range-clause-none g c v shows read =
    let b = c.args.a.block in
    none_out_of_range v b (ap (λ geo. nat_lt 0 b && nat_lt b (blocks_of geo)) shows.numbers ∙ (sym c.is_block_in_range.ensures ∙ c.if-not-is_block_in_range.true))
