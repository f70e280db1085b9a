-- From what was walked so far the chain, from the link on, gives what it gives from its head.
use Rattle.std.proofs.Common.{◌-◌, List, length}
use Rattle.o2_model.specs.Volume.{Volume, blocks}
use Rattle.o2_model.specs.Groups.{GroupWalk, walk_chain as chain_walk}
use Rattle.o2_view.specs.Geos.{blocks_of}
use Rattle.o2_view.specs.Views.{Shows, OnlyReads}
use Rattle.o2_view.specs.declared.run.Run.{Run as Clusters}
use Rattle.o2_extent.specs.Readings.{LooksAtMost}
use Rattle.o2_chain.specs.Readings.{Keeps, Left, HasLooked, looked_at}
use Rattle.o2_chain.proofs.chains.walk_chain.Given as goal

abbrev pub invariant-loop-link : goal.invariant-loop-link
invariant-loop-link g l = record {
  walks : (v : Volume) → Shows l.fn.view l.geo v → (before : List Clusters) (w : GroupWalk) → Keeps v l.a before l.fn.walked w
      → Left v l.a before l.chain l.holder l.link l.walked (chain_walk v l.a l.chain (blocks v) l.a.block l.head w);
  apart : HasLooked (blocks_of l.geo) l.walked;
  count : LooksAtMost (looked_at l.fn.walked) (looked_at l.walked) l.fn.view l.view;
  reads : OnlyReads l.fn.view l.view;
}

abbrev pub decreases-loop-link : goal.decreases-loop-link
decreases-loop-link g l = blocks_of l.geo - length (looked_at l.walked)
