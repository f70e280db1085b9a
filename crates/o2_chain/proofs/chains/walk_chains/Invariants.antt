-- From what was walked so far the chains left give what all give from the start.
use Rattle.std.proofs.Common.{◌≡◌, List, drop}
use Rattle.o2_model.specs.Volume.{Volume}
use Rattle.o2_model.specs.Groups.{GroupWalk, walk_chains as chains_walk}
use Rattle.o2_view.specs.Geos.{blocks_of}
use Rattle.o2_view.specs.Views.{Shows, OnlyReads}
use Rattle.o2_view.specs.declared.run.Run.{Run as Clusters}
use Rattle.o2_extent.specs.Readings.{LooksAtMost}
use Rattle.o2_chain.specs.Readings.{Keeps, LeftChains, HasLooked, heads_of, looked_at}
use Rattle.o2_chain.proofs.chains.walk_chains.Given as goal

abbrev pub invariant-loop-record : goal.invariant-loop-record
invariant-loop-record g l = record {
  number : l.chain ≡ l.record-index;
  walks : (v : Volume) → Shows l.fn.view l.geo v → (before : List Clusters) (w : GroupWalk) → Keeps v l.a before l.fn.walked w
      → LeftChains v l.a before l.chain (drop l.record-index l.records) l.walked (chains_walk v l.a 0 (heads_of l.records) w);
  apart : HasLooked (blocks_of l.geo) l.walked;
  count : LooksAtMost (looked_at l.fn.walked) (looked_at l.walked) l.fn.view l.view;
  reads : OnlyReads l.fn.view l.view;
}
