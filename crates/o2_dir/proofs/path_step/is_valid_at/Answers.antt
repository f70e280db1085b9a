-- No dinode behind the volume's end is valid.
use Rattle.std.proofs.Common.{sym, ap, arith}
use Rattle.o2_view.specs.Geos.{blocks_of}
use Rattle.o2_dir.proofs.ValidDinodes.{outside_is_invalid}
use Rattle.o2_dir.proofs.path_step.is_valid_at.Goals as goal

pub returns-then-volume_blocks-b-clause-is : goal.returns-then-volume_blocks-b-clause-is
returns-then-volume_blocks-b-clause-is g c v shows =
    sym (outside_is_invalid v c.args.b (omega (arith, ap blocks_of shows.numbers, c.volume_blocks.ensures.blocks, c.if-volume_blocks-b.true)))
