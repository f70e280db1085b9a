-- The inline bytes are the directory's one block.
use Rattle.std.proofs.Common.{◌≡◌, inl, inr, sym, ◌∙◌}
use Rattle.o2_model.specs.declared.check.Check.TheVariants.{InodeSize}
use Rattle.o2_dir.proofs.InDinode.{size_is, told, bad_told}
use Rattle.o2_dir.proofs.Whole.{fails_size}
use Rattle.o2_dir.proofs.inline_directory.inlined.Goals as goal

pub read_part-requires-clause-long : goal.read_part-requires-clause-long
read_part-requires-clause-long c = c.has_room.ensures.fits c.if-not-has_room.false

pub returns-then-not-has_room-clause-bad : goal.returns-then-not-has_room-clause-bad
returns-then-not-has_room-clause-bad c check b is =
    let named : check ≡ InodeSize = cc in
    let placed : b ≡ c.args.inode = cc in (
      inr (inl named),
      λ v long h. fails_size v c.args.inode check b named placed h.sound (size_is v c.args.inode c.args.size c.args.bytes.now long h ∙ (sym c.has_room.ensures.test ∙ c.if-not-has_room.true)),
    )

pub returns-clause-told : goal.returns-clause-told
returns-clause-told c =
    told c.settle.result c.in_ok-reading.reading c.args.inode c.args.size c.args.bytes.now (c.has_room.ensures.fits c.if-not-has_room.false) c.in_ok-reading.ensures (sym c.has_room.ensures.test ∙ c.if-not-has_room.false) c.settle.ensures.sound c.settle.ensures.none

pub returns-clause-bad : goal.returns-clause-bad
returns-clause-bad c =
    bad_told c.settle.result c.in_ok-reading.reading c.args.inode c.args.size c.args.bytes.now (c.has_room.ensures.fits c.if-not-has_room.false) c.in_ok-reading.ensures (sym c.has_room.ensures.test ∙ c.if-not-has_room.false) c.settle.ensures.bad
