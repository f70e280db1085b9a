-- Each round adds the piece at the front of what is left.
use Rattle.o2_ondisk.proofs.NamePieces.{piece_added}
use Rattle.o2_ondisk.proofs.hash.add_pieces.Goals as goal

pub loop-at-preserved : goal.loop-at-preserved
loop-at-preserved c = piece_added c.args.name.now c.loop-at.at c.loop-at.halves c.add_piece-halves.result _ c.loop-at-test.true c.add_piece-halves.ensures c.loop-at.invariant
