-- The inline bytes are the one block, or are at fault.
use Rattle.std.proofs.Common.{refl, ap}
use Rattle.std.proofs.lemmas.Result.{IfOk-weaker}
use Rattle.o2_dir.proofs.AnyBlocks.{inline_read, inline_unread}
use Rattle.o2_dir.proofs.directory_blocks.read_inline_entries.Goals as goal

pub returns-then-room-size : goal.returns-then-room-size
returns-then-room-size c v holds long =
    inline_unread v c.args.inode c.read_dinode-size.result.size c.args.bytes.now c.start-reading.result _ holds long (ap (λ x. x.size) c.read_dinode-size.ensures) c.if-room-size.true c.start-reading.ensures c.in_ok-put.ensures.added refl

pub returns : goal.returns
returns c = IfOk-weaker c.read_part.result _ _
    (λ reading kept v holds long. inline_read v c.args.inode c.read_dinode-size.result.size c.args.bytes.now reading holds long (ap (λ x. x.size) c.read_dinode-size.ensures) c.if-room-size.false kept)
    c.read_part.ensures
