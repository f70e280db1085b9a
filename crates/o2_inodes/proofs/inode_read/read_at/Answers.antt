-- A block out of range is no inode, and one that holds a valid dinode is one.
use Rattle.std.proofs.Common.{◌≡◌, ◌&&◌, nat_lt, true, sym, ◌∙◌, ap}
use Rattle.o2_model.specs.Volume.{is_valid}
use Rattle.o2_view.specs.Geos.{blocks_of}
use Rattle.o2_view.proofs.Shown.{still_shows}
use Rattle.o2_extent.proofs.Views.{only_both}
use Rattle.o2_inodes.proofs.Surveyed.{invalid_out_of_range}
use Rattle.o2_inodes.proofs.inode_read.read_at.Goals as goal

pub returns-then-not-is_block_in_range-clause-told : goal.returns-then-not-is_block_in_range-clause-told
returns-then-not-is_block_in_range-clause-told g c v shows =
    let b = c.args.b in
    invalid_out_of_range v b (ap (λ geo. nat_lt 0 b && nat_lt b (blocks_of geo)) shows.numbers ∙ (sym c.is_block_in_range.ensures ∙ c.if-not-is_block_in_range.true))

pub returns-clause-told : goal.returns-clause-told
returns-clause-told g c v shows =
    let holds = c.in_ok-block.ensures.bytes v shows in
    let valid : is_valid v c.args.b ≡ true = sym (c.holds_inode.ensures v shows.numbers (c.as_slice.ensures ∙ holds)) ∙ c.if-not-holds_inode.false in
    (valid, c.in_ok-inode.ensures.told v (still_shows c.look.ensures.reads shows) holds)

pub returns-clause-reads : goal.returns-clause-reads
returns-clause-reads g c = only_both c.look.ensures.reads c.read_more.ensures.reads
