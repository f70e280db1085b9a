-- The names left lead where the path does.
use Rattle.std.proofs.Common.{◌<◌, ℕ, List, length}
use Rattle.o2_model.specs.Volume.{Volume}
use Rattle.o2_view.specs.Views.{view_blocks, Shows, OnlyReads}
use Rattle.o2_dir.specs.Paths.{AreNames}
use Rattle.o2_dir.proofs.PathWays.{Remains}
use Rattle.o2_dir.proofs.route.follow.Given as goal

abbrev pub invariant-loop-rest : goal.invariant-loop-rest
invariant-loop-rest g l = record {
  inside : l.inode < view_blocks l.fn.view;
  only : OnlyReads l.fn.view l.view;
  way : (v : Volume) → Shows l.fn.view l.fn.geo v → (names : List (List ℕ)) → AreNames l.fn.text names → Remains v l.fn.start names l.inode l.rest;
}

abbrev pub decreases-loop-rest : goal.decreases-loop-rest
decreases-loop-rest g l = length l.rest
