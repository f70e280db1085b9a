-- From what is read so far the records left give what all give from the start.
use Rattle.std.proofs.Common.{◌≡◌, drop, true}
use Rattle.o2_model.specs.Volume.{Volume}
use Rattle.o2_model.specs.Extents.{Extents, read_records}
use Rattle.o2_extent.specs.Readings.{Keeps, Within, Left}
use Rattle.o2_extent.specs.Rules.{rule_of, tells_clusters}
use Rattle.o2_extent.proofs.tree.read_leaves.Given as goal

abbrev pub invariant-loop-r : goal.invariant-loop-r
invariant-loop-r l = record {
  read : (v : Volume) → v.geo ≡ l.geo → (t : Extents) → Keeps v l.fn.reading t
      → Left v (rule_of l.rule) 0 l.holder 0 (drop l.r-index l.records) l.reading (read_records v (rule_of l.rule) 0 l.holder 0 l.records t);
  seen : l.reading.seen ≡ l.fn.reading.seen;
  within : tells_clusters l.rule ≡ true → Within l.geo l.fn.reading.leaves.items → Within l.geo l.reading.leaves.items;
}
