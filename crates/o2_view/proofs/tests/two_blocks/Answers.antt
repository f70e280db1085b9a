-- The second block is one of the same volume.
use Rattle.o2_view.proofs.Shown.{still_shows}
use Rattle.o2_view.proofs.tests.two_blocks.Goals as goal

pub returns-clause-shown : goal.returns-clause-shown
returns-clause-shown g c geo v shows = (c.in_ok-first.ensures.shown geo v shows, c.in_ok-second.ensures.shown geo v (still_shows c.block.ensures.reads shows))
