-- From what is read so far the records left give what all give from the start.
use Rattle.std.proofs.Common.{◌≡◌, drop, true}
use Rattle.o2_model.specs.Volume.{Volume}
use Rattle.o2_view.specs.Views.{view_blocks, Shows, OnlyReads}
use Rattle.o2_model.specs.Words.{Apart}
use Rattle.o2_model.specs.Extents.{Extents, read_records}
use Rattle.o2_extent.specs.Readings.{Keeps, Within, Left, LooksAtMost}
use Rattle.o2_extent.specs.Rules.{rule_of, tells_clusters}
use Rattle.o2_extent.proofs.tree.+read_into.Given as goal

abbrev pub invariant-loop-r : goal.invariant-loop-r
invariant-loop-r g l = record {
  read : (v : Volume) → Shows l.fn.view l.geo v → (t : Extents) → Keeps v l.fn.reading t
      → Left v (rule_of l.rule) l.depth l.holder l.low (drop l.r-index l.records) l.reading (read_records v (rule_of l.rule) l.depth l.holder 0 l.records t);
  apart : Apart (view_blocks l.fn.view) l.fn.reading.seen → Apart (view_blocks l.fn.view) l.reading.seen;
  count : LooksAtMost l.fn.reading.seen l.reading.seen l.fn.view l.view;
  reads : OnlyReads l.fn.view l.view;
  within : tells_clusters l.rule ≡ true → Within l.geo l.fn.reading.leaves.items → Within l.geo l.reading.leaves.items;
}

abbrev pub decreases-read_into : goal.decreases-read_into
decreases-read_into g l = l.depth
