-- What the block says is added.
use Rattle.std.proofs.Common.{nat_lt, ◌&&◌, sym, ◌∙◌, ap}
use Rattle.o2_view.specs.Geos.{blocks_of}
use Rattle.o2_survey.proofs.named_inodes.add_inode.Goals as goal

pub returns-clause-added : goal.returns-clause-added
returns-clause-added g c v shows named are =
    let b = c.args.b in
    let inside = ap (λ geo. nat_lt 0 b && nat_lt b (blocks_of geo)) shows.numbers ∙ (sym c.is_block_in_range.ensures ∙ c.if-not-is_block_in_range.false) in
    c.in_ok-add_read.ensures v shows.numbers (c.in_ok-block.ensures.bytes v shows) inside named are
